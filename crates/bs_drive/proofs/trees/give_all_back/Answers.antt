use Rattle.std.proofs.Common.{◌∙◌, subst, List, Option}
use Rattle.bs_core.specs.declared.table.Held.{Held}
use Rattle.bs_store.specs.Walks.{Within}
use Rattle.bs_drive.specs.Shared.{held_of}
use Rattle.bs_drive.proofs.Places.{last_has, back_one}
use Rattle.bs_drive.proofs.trees.give_all_back.Goals as goal

pub release_some-requires-clause-held : goal.release_some-requires-clause-held
release_some-requires-clause-held g c =
    last_has c.pop.new.self.items c.trees.pass.held c.in-Some.tree
    (subst (λ (ts : List (Option Held)). Within (held_of ts) c.trees.pass.held) c.in-Some.ensures.items c.trees.invariant.2)

pub trees-preserved : goal.trees-preserved
trees-preserved g c =
    let i = c.trees.invariant in
    let back = back_one c.args.pass.now.held c.trees.pass.held c.release_some.new.pass.held c.pop.new.self.items c.trees.rest.items c.args.trees.items c.in-Some.tree c.in-Some.ensures.items c.release_some.ensures.less i.2 i.3 in
    ((c.release_some.ensures.same.0 ∙ i.0.0, c.release_some.ensures.same.1 ∙ i.0.1), c.release_some.ensures.gains ∙ i.1, back.0, back.1)
