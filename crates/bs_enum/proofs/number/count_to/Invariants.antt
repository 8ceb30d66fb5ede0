use Rattle.std.proofs.Common.{◌≡◌, ◌+◌, min}
use Rattle.bs_enum.specs.AllTrees.{trees_to}
use Rattle.bs_enum.proofs.number.count_to.Given as goal

abbrev pub invariant-orders : goal.invariant-orders
invariant-orders l = l.total ≡ min (trees_to l.smaller l.colours) (l.limit + 1)
