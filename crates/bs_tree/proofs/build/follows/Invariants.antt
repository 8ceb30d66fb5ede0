use Rattle.std.proofs.Common.{◌≡◌, drop}
use Rattle.bs_tree.specs.Code.{follows}
use Rattle.bs_tree.proofs.build.follows.Given as goal

abbrev pub invariant-pairs : goal.invariant-pairs
invariant-pairs l = follows l.last (drop l.pair-index l.pairs) ≡ follows 1 l.fn.pairs
