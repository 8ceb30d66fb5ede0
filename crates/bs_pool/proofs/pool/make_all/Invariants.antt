use Rattle.std.proofs.Common.{◌≡◌, vec_len}
use Rattle.bs_pool.specs.Places.{Empty}
use Rattle.bs_pool.proofs.pool.make_all.Given as goal

abbrev pub invariant-loop : goal.invariant-loop
invariant-loop g l = (vec_len l.places ≡ l.counter) × Empty l.places.items
