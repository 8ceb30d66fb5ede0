use Rattle.std.proofs.Common.{◌≡◌, ◌++◌, take}
use Rattle.bs_tree.specs.Code.{deeper}
use Rattle.bs_catalog.proofs.arena.push_deeper.Given as goal

abbrev pub invariant-pairs : goal.invariant-pairs
invariant-pairs l = l.all ≡ l.initial.all ++ deeper (take l.pair-index l.pairs)
