use Rattle.std.proofs.Common.{◌≡◌, ◌++◌, take}
use Rattle.bs_catalog.proofs.arena.push_all.Given as goal

abbrev pub invariant-pairs : goal.invariant-pairs
invariant-pairs l = l.all ≡ l.initial.all ++ take l.pair-index l.pairs
