use Rattle.std.proofs.Common.{◌≡◌, ◌++◌, take}
use Rattle.bs_tree.specs.Insertion.{from_level}
use Rattle.bs_tree.proofs.pairs.Pairs.push_from.Given as goal

abbrev pub invariant-pairs : goal.invariant-pairs
invariant-pairs l = l.self ≡ l.initial.self ++ from_level l.root (take l.pair-index l.pairs)
