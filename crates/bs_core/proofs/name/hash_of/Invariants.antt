use Rattle.std.proofs.Common.{◌≡◌, drop}
use Rattle.bs_core.specs.Codes.{hash_from}
use Rattle.bs_core.proofs.name.hash_of.Given as goal

abbrev pub invariant-pairs : goal.invariant-pairs
invariant-pairs l = hash_from l.hash (drop l.pair-index l.pairs) ≡ hash_from 0 l.pairs
