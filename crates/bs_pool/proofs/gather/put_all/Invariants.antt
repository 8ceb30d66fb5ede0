use Rattle.std.proofs.Common.{◌≡◌, ℕ, ◌+◌, List, All, vec_len}
use Rattle.bs_pool.specs.Places.{Placed, Filled}
use Rattle.bs_pool.specs.Seats.{AllDone, jobs_of_all}
use Rattle.bs_pool.proofs.gather.put_all.Given as goal

abbrev pub invariant-loop-seat : goal.invariant-loop-seat
invariant-loop-seat l = record {
  long : vec_len l.places ≡ vec_len l.initial.places;
  placed : (answer : ℕ → List ℕ) → All (AllDone answer) l.fn.seats.items → Placed answer l.initial.places.items → All (AllDone answer) l.seat-iterator.rest.items × Placed answer l.places.items;
  filled : (f : ℕ → ℕ) → Filled f l.initial.places.items → (g : ℕ → ℕ) × Filled g l.places.items × ((x : ℕ) → g x + jobs_of_all x l.seat-iterator.rest.items ≡ f x + jobs_of_all x l.fn.seats.items);
}
