use Rattle.std.proofs.Common.{◌≡◌, ℕ, map, take}
use Rattle.bs_pool.specs.Seats.{deque_of, crew_of, carried}
use Rattle.bs_pool.specs.Moves.{Gave}
use Rattle.bs_pool.proofs.Lists.{Upto}
use Rattle.bs_pool.proofs.deal.make_crew.Given as goal

abbrev pub invariant-loop-worker : goal.invariant-loop-worker
invariant-loop-worker l = record {
  upto : Upto Gave l.worker l.initial.seats.items l.seats.items;
  crew : crew_of l.crew.items ≡ map deque_of (take l.worker l.initial.seats.items);
  none : (x : ℕ) → carried x l.crew.items ≡ 0;
}
