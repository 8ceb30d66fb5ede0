use Rattle.std.proofs.Common.{◌∙◌, ap, sym, subst, Option, List}
use Rattle.bs_core.specs.declared.table.Held.{Held}
use Rattle.bs_drive.specs.Shared.{tree_in, SameBeside}
use Rattle.bs_drive.proofs.Places.{has_some, beside_emptied}
use Rattle.bs_drive.proofs.trees.give_back.Goals as goal

pub release_some-requires-clause-held : goal.release_some-requires-clause-held
release_some-requires-clause-held g c =
    has_some c.args.trees.now.items c.args.pass.now.held c.args.number c.tree_in-tree.result c.requires.held
    (c.tree_in-tree.ensures ∙ ap (λ (ts : List (Option Held)). tree_in ts c.args.number) c.deref.ensures.value)

pub returns-clause-beside : goal.returns-clause-beside
returns-clause-beside g c =
    subst (λ (ts : List (Option Held)). SameBeside c.args.trees.now.items c.args.pass.now.held ts c.release_some.new.pass.held) (sym c.empty.ensures)
    (beside_emptied c.args.trees.now.items c.args.number c.args.pass.now.held c.release_some.new.pass.held c.tree_in-tree.result
    (c.tree_in-tree.ensures ∙ ap (λ (ts : List (Option Held)). tree_in ts c.args.number) c.deref.ensures.value) c.release_some.ensures.less)
