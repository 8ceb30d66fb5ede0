use Rattle.std.proofs.Common.{◌≡◌, ◌++◌, take}
use Rattle.bs_tree.specs.Subtrees.{raised}
use Rattle.bs_tree.proofs.pairs.Pairs.push_raised.Given as goal

abbrev pub invariant-pairs : goal.invariant-pairs
invariant-pairs l = l.self ≡ l.initial.self ++ raised (take l.pair-index l.pairs)
