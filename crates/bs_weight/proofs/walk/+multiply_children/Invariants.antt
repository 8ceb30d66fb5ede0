use Rattle.std.proofs.Common.{length}
use Rattle.bs_weight.proofs.walk.+multiply_children.Given as goal

abbrev pub decreases-multiply_children : goal.decreases-multiply_children
decreases-multiply_children l = length l.pairs.now
