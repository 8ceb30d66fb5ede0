use Rattle.std.proofs.Common.{List, [], ◌∷◌, ◌++◌, sym, subst}
use Rattle.bs_core.specs.declared.name.Name.{Name}
use Rattle.bs_store.specs.Seats.{OfPass}
use Rattle.bs_store.specs.Walks.{Keeps}
use Rattle.bs_store.proofs.Keepings.{keeps_turned, front_held}
use Rattle.bs_store_rows.proofs.holder.Holder.read.Goals as goal

pub read-code-requires-clause-held : goal.read-code-requires-clause-held
read-code-requires-clause-held g c =
    let old = c.self.inside.pass.held in
    let k = subst (λ (l : List Name). Keeps l old) c.in-Some.ensures.items c.self.invariant in
    front_held c.in-Some.name _ old k

pub invariant_of-self-in-Some : goal.invariant_of-self-in-Some
invariant_of-self-in-Some g c =
    let old = c.self.inside.pass.held in
    let k = subst (λ (l : List Name). Keeps l old) c.in-Some.ensures.items c.self.invariant in
    subst (λ (l : List Name). Keeps l c.read-code.new.pass.held) (sym c.in_ok-push_back-in-Some.ensures.items) (subst (λ (p : OfPass). Keeps (c.pop_front.new.self.items ++ c.in-Some.name ∷ []) p.held) (sym c.read-code.ensures.pass) (keeps_turned c.in-Some.name c.pop_front.new.self.items old k))
