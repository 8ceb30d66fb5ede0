use Rattle.std.proofs.Common.{◌≡◌, ℕ, ◌<◌, ◌≤◌, List, length, get_or, vec_len}
use Rattle.std.specs.Prelude.{IsSome}
use Rattle.bs_pool.specs.Answers.{AreAnswers}
use Rattle.bs_pool.specs.Places.{Placed}
use Rattle.bs_pool.proofs.gather.complete.Given as goal

abbrev pub invariant-loop-job : goal.invariant-loop-job
invariant-loop-job l = record {
  long : vec_len l.places ≡ vec_len l.initial.places;
  filled : (j : ℕ) (d : _) → l.job ≤ j → j < length l.places.items → IsSome (get_or l.places.items j d);
  answers : (answer : ℕ → List ℕ) → Placed answer l.initial.places.items → Placed answer l.places.items × AreAnswers answer l.job l.answers.items;
}
