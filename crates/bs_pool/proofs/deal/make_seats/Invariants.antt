use Rattle.std.proofs.Common.{◌≡◌, ℕ, All, vec_len}
use Rattle.bs_pool.specs.Seats.{New, put_of_all}
use Rattle.bs_pool.proofs.deal.make_seats.Given as goal

abbrev pub invariant-loop-worker : goal.invariant-loop-worker
invariant-loop-worker l = record {
  long : vec_len l.seats ≡ l.worker;
  new : All New l.seats.items;
  none : (x : ℕ) → put_of_all x l.seats.items ≡ 0;
}
