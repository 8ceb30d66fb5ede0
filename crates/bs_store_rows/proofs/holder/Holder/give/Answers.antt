use Rattle.std.proofs.Common.{List, sym, subst}
use Rattle.bs_core.specs.Machine.{code_at, pair}
use Rattle.bs_core.specs.declared.name.Name.{Name}
use Rattle.bs_core.specs.declared.table.Held.{Held}
use Rattle.bs_store.specs.Walks.{Keeps, More}
use Rattle.bs_store.proofs.Keepings.{keeps_more, keeps_push, front_held, front_gone, more_last, more_without}
use Rattle.bs_store_rows.proofs.holder.Holder.give.Goals as goal

pub give-requires-clause-held : goal.give-requires-clause-held
give-requires-clause-held g c =
    let old = c.self.inside.pass.held in
    let k = subst (λ (l : List Name). Keeps l old) c.in-Some.ensures.items c.self.invariant in
    front_held c.in-Some.name _ old k

pub invariant_of-self : goal.invariant_of-self
invariant_of-self g c =
    let old = c.self.inside.pass.held in
    let k = subst (λ (l : List Name). Keeps l old) c.in-Some.ensures.items c.self.invariant in
    front_gone c.in-Some.name _ old c.give.new.from.held c.known.ensures.sound k
    (subst (λ (l : List Held). More (pair c.in-Some.name (code_at c.in-Some.name old)) l old) (sym c.give.ensures.from.0) (more_without c.in-Some.name old (front_held c.in-Some.name _ old k)))

pub invariant_of-to : goal.invariant_of-to
invariant_of-to g c =
    let old = c.self.inside.pass.held in
    let p = pair c.in-Some.name (code_at c.in-Some.name old) in
    let more = subst (λ (l : List Held). More p c.to.inside.pass.held l) (sym c.give.ensures.to.0) (more_last p c.to.inside.pass.held) in
    subst (λ (l : List Name). Keeps l c.give.new.to.held) (sym c.in_ok-push_back.ensures.items) (keeps_push _ c.in-Some.name (code_at c.in-Some.name old) c.to.inside.pass.held c.give.new.to.held more c.to.invariant)

pub invariant_of-self-in_err-push_back : goal.invariant_of-self-in_err-push_back
invariant_of-self-in_err-push_back g c =
    let old = c.self.inside.pass.held in
    let k = subst (λ (l : List Name). Keeps l old) c.in-Some.ensures.items c.self.invariant in
    front_gone c.in-Some.name _ old c.give.new.from.held c.known.ensures.sound k
    (subst (λ (l : List Held). More (pair c.in-Some.name (code_at c.in-Some.name old)) l old) (sym c.give.ensures.from.0) (more_without c.in-Some.name old (front_held c.in-Some.name _ old k)))

pub invariant_of-to-in_err-push_back : goal.invariant_of-to-in_err-push_back
invariant_of-to-in_err-push_back g c =
    let old = c.self.inside.pass.held in
    let p = pair c.in-Some.name (code_at c.in-Some.name old) in
    let more = subst (λ (l : List Held). More p c.to.inside.pass.held l) (sym c.give.ensures.to.0) (more_last p c.to.inside.pass.held) in
    subst (λ (l : List Name). Keeps l c.give.new.to.held) (sym c.in_err-push_back.ensures.items) (keeps_more _ p c.to.inside.pass.held c.give.new.to.held more c.to.invariant)
