use Rattle.std.proofs.Common.{◌≡◌, ℕ, ◌+◌, List, All, map, vec_len}
use Rattle.bs_pool.specs.Places.{Placed, Filled}
use Rattle.bs_pool.specs.Hands.{times}
use Rattle.bs_pool.specs.Seats.{IsDone, job_of}
use Rattle.bs_pool.proofs.gather.put_done.Given as goal

abbrev pub invariant-loop-job : goal.invariant-loop-job
invariant-loop-job l = record {
  long : vec_len l.places ≡ vec_len l.initial.places;
  placed : (answer : ℕ → List ℕ) → All (IsDone answer) l.fn.done.items → Placed answer l.initial.places.items → All (IsDone answer) l.job-iterator.rest.items × Placed answer l.places.items;
  filled : (f : ℕ → ℕ) → Filled f l.initial.places.items → (g : ℕ → ℕ) × Filled g l.places.items × ((x : ℕ) → g x + times x (map job_of l.job-iterator.rest.items) ≡ f x + times x (map job_of l.fn.done.items));
}
