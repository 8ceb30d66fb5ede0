use Rattle.std.proofs.Common.{◌<◌, ◌++◌, ◌∷◌, [], List, sym, subst}
use Rattle.bs_core.specs.Machine.{times}
use Rattle.bs_core.specs.declared.name.Name.{Name}
use Rattle.bs_memo.specs.Keys.{OfKey}
use Rattle.bs_store.specs.Walks.{Keeps}
use Rattle.bs_store.proofs.Keepings.{keeps_same, keeps_turned, front_held}
use Rattle.bs_memo_rows.proofs.holder.Holder.keep.Goals as goal

pub keep_value-requires-clause-held : goal.keep_value-requires-clause-held
keep_value-requires-clause-held g c =
    let old = c.self.inside.pass.held in
    let k = subst (λ (l : List Name). Keeps l old) c.in-Some.ensures.items c.self.invariant in
    subst (λ (key : OfKey). 0 < times key.name old) (sym c.set_name.ensures) (front_held c.in-Some.name _ old k)

pub invariant_of-self-in-Some : goal.invariant_of-self-in-Some
invariant_of-self-in-Some g c =
    let old = c.self.inside.pass.held in
    let k = subst (λ (l : List Name). Keeps l old) c.in-Some.ensures.items c.self.invariant in
    let names = c.pop_front.new.self.items ++ c.in-Some.name ∷ [] in
    subst (λ (l : List Name). Keeps l c.keep_value.new.pass.held) (sym c.in_ok-push_back-in-Some.ensures.items)
    (keeps_same names old c.keep_value.new.pass.held c.keep_value.ensures.pairs (keeps_turned c.in-Some.name c.pop_front.new.self.items old k))
