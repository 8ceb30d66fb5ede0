use Rattle.std.proofs.Common.{◌<◌, ◌++◌, ◌∷◌, [], List, sym, subst}
use Rattle.bs_core.specs.Machine.{times}
use Rattle.bs_core.specs.declared.name.Name.{Name}
use Rattle.bs_memo.specs.Keys.{OfKey}
use Rattle.bs_store.specs.Seats.{OfPass}
use Rattle.bs_store.specs.Walks.{Keeps}
use Rattle.bs_store.proofs.Keepings.{keeps_turned, front_held}
use Rattle.bs_memo_rows.proofs.holder.Holder.look.Goals as goal

pub look-found-requires-clause-held : goal.look-found-requires-clause-held
look-found-requires-clause-held g c =
    let old = c.self.inside.pass.held in
    let k = subst (λ (l : List Name). Keeps l old) c.in-Some.ensures.items c.self.invariant in
    subst (λ (key : OfKey). 0 < times key.name old) (sym c.set_name.ensures) (front_held c.in-Some.name _ old k)

pub invariant_of-self-in-Some : goal.invariant_of-self-in-Some
invariant_of-self-in-Some g c =
    let old = c.self.inside.pass.held in
    let k = subst (λ (l : List Name). Keeps l old) c.in-Some.ensures.items c.self.invariant in
    subst (λ (l : List Name). Keeps l c.look-found.new.pass.held) (sym c.in_ok-push_back-in-Some.ensures.items)
    (subst (λ (p : OfPass). Keeps (c.pop_front.new.self.items ++ c.in-Some.name ∷ []) p.held) (sym c.look-found.ensures.pass) (keeps_turned c.in-Some.name c.pop_front.new.self.items old k))
