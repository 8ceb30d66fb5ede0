use Rattle.std.proofs.Common.{◌≡◌}
use Rattle.bs_tree.specs.Numbers.{factorial}
use Rattle.bs_tree.proofs.tree.factorial.Given as goal

abbrev pub invariant-factors : goal.invariant-factors
invariant-factors l = l.product ≡ factorial l.k
