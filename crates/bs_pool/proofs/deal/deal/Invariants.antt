use Rattle.std.proofs.Common.{◌≡◌, ℕ, All, vec_len}
use Rattle.bs_pool.specs.Hands.{below}
use Rattle.bs_pool.specs.Seats.{New, put_of_all}
use Rattle.bs_pool.proofs.deal.deal.Given as goal

abbrev pub invariant-loop-job : goal.invariant-loop-job
invariant-loop-job l = record {
  long : vec_len l.seats ≡ l.workers;
  new : All New l.seats.items;
  put : (x : ℕ) → put_of_all x l.seats.items ≡ below x l.job;
}
