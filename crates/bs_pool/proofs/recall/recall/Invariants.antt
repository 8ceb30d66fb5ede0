use Rattle.bs_pool.specs.Moves.{Home}
use Rattle.bs_pool.proofs.recall.recall.Given as goal

abbrev pub invariant-loop-worker : goal.invariant-loop-worker
invariant-loop-worker l = Home l.worker l.initial.seats.items l.seats.items
