use Rattle.std.proofs.Common.{◌≡◌, [], vec_len}
use Rattle.bs_pool.specs.Moves.{Took}
use Rattle.bs_pool.proofs.seat.Seat.other_job.Given as goal

abbrev pub invariant-loop-step : goal.invariant-loop-step
invariant-loop-step g l = record {
  took : Took [] l.initial.self l.self;
  deque : l.self.deque ≡ l.initial.self.deque;
  long : vec_len l.self.thieves ≡ l.workers;
}
