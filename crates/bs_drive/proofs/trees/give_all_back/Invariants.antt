use Rattle.std.proofs.Common.{◌≡◌, ◌+◌, length}
use Rattle.bs_core.specs.Codes.{Code}
use Rattle.bs_core.specs.Laws.{often}
use Rattle.bs_core.specs.declared.name.Name.{Name}
use Rattle.bs_store.specs.Walks.{SamePass, Within}
use Rattle.bs_drive.specs.Shared.{held_of}
use Rattle.bs_drive.proofs.trees.give_all_back.Given as goal

abbrev pub invariant-trees : goal.invariant-trees
invariant-trees g l =
    SamePass l.fn.pass l.pass × (l.pass.gains ≡ l.fn.pass.gains) × Within (held_of l.rest.items) l.pass.held
    × ((x : Name) (c : Code) → often x c l.fn.pass.held + often x c (held_of l.rest.items) ≡ often x c l.pass.held + often x c (held_of l.fn.trees.items))

abbrev pub decreases-trees : goal.decreases-trees
decreases-trees g l = length l.rest.items
