use Rattle.std.proofs.Common.{◌∙◌, ap, Option, Some, List, [], ◌∷◌, ◌++◌}
use Rattle.bs_core.specs.declared.table.Held.{Held}
use Rattle.bs_drive.proofs.Places.{beside_added}
use Rattle.bs_drive.proofs.trees.add.Goals as goal

pub returns-clause-beside : goal.returns-clause-beside
returns-clause-beside g c =
    beside_added c.args.trees.now.items c.push_reserved.new.self.items c.args.pass.now.held c.intern.new.pass.held c.in_ok-tree.tree c.in_ok-tree.ensures.more
    (c.push_reserved.ensures.items ∙ ap (λ (ts : List (Option Held)). ts ++ Some c.in_ok-tree.tree ∷ []) c.reserve.ensures.items)
