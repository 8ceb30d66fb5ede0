use Rattle.std.proofs.Common.{◌≡◌, ◌+◌, length}
use Rattle.bs_enum.specs.AllTrees.{tree_count}
use Rattle.bs_enum.proofs.number.count_upto.Given as goal

abbrev pub invariant-trees : goal.invariant-trees
invariant-trees l = length l.walk.left + l.count ≡ tree_count l.order l.colours
