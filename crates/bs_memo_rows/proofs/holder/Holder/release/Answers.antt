use Rattle.std.proofs.Common.{List, subst}
use Rattle.bs_core.specs.declared.name.Name.{Name}
use Rattle.bs_store.specs.Walks.{Keeps}
use Rattle.bs_store.proofs.Keepings.{front_held, front_gone}
use Rattle.bs_memo_rows.proofs.holder.Holder.release.Goals as goal

pub release-requires-clause-held : goal.release-requires-clause-held
release-requires-clause-held g c =
    let old = c.self.inside.pass.held in
    let k = subst (λ (l : List Name). Keeps l old) c.in-Some.ensures.items c.self.invariant in
    front_held c.in-Some.name _ old k

pub invariant_of-self : goal.invariant_of-self
invariant_of-self g c =
    let old = c.self.inside.pass.held in
    let k = subst (λ (l : List Name). Keeps l old) c.in-Some.ensures.items c.self.invariant in
    front_gone c.in-Some.name _ old c.release.new.pass.held c.known.ensures.sound k c.release.ensures.held
