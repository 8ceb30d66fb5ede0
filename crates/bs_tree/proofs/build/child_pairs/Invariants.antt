use Rattle.bs_tree.proofs.Children.{IsFrom}
use Rattle.bs_tree.proofs.build.child_pairs.Given as goal

abbrev pub invariant-passed : goal.invariant-passed
invariant-passed l = IsFrom l.fn.pairs l.rest l.counter
