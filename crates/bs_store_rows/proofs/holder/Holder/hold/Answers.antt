use Rattle.std.proofs.Common.{List, sym, subst}
use Rattle.bs_core.specs.Machine.{code_at, pair}
use Rattle.bs_core.specs.declared.name.Name.{Name}
use Rattle.bs_core.specs.declared.table.Held.{Held}
use Rattle.bs_store.specs.Walks.{Keeps, More}
use Rattle.bs_store.proofs.Keepings.{keeps_push, keeps_turned, front_held, more_last}
use Rattle.bs_store_rows.proofs.holder.Holder.hold.Goals as goal

pub hold-requires-clause-held : goal.hold-requires-clause-held
hold-requires-clause-held g c =
    let old = c.self.inside.pass.held in
    let k = subst (λ (l : List Name). Keeps l old) c.in-Some.ensures.items (subst (λ (l : List Name). Keeps l old) (sym c.reserve.ensures.items) c.self.invariant) in
    front_held c.in-Some.name _ old k

pub invariant_of-self-in-Continue-branch-3 : goal.invariant_of-self-in-Continue-branch-3
invariant_of-self-in-Continue-branch-3 g c =
    let old = c.self.inside.pass.held in
    let k = subst (λ (l : List Name). Keeps l old) (c.in-Some.ensures.items) (subst (λ (l : List Name). Keeps l old) (sym c.reserve.ensures.items) c.self.invariant) in
    let n = c.in-Some.name in
    let more = subst (λ (l : List Held). More (pair n (code_at n old)) old l) (sym c.hold.ensures.held) (more_last (pair n (code_at n old)) old) in
    subst (λ (l : List Name). Keeps l c.hold.new.pass.held) (sym (c.in_ok-push_back-2.ensures.items))
    (keeps_push _ n (code_at n old) old c.hold.new.pass.held more (subst (λ (l : List Name). Keeps l old) (sym c.in_ok-push_back.ensures.items) (keeps_turned n _ old k)))
