-- What a pool of workers answers.
--
--   AreAnswers answer jobs vs   == one text for each job, in the order of their numbers: at place j the answer of job j
--
-- Source: this project's own.
-- The workers do the jobs in no order; each answer is put in the place of its job.
-- A caller needs this module alone: the others say what the parts of the pool do.
use Rattle.std.specs.Prelude.{◌≡◌, ℕ, ◌<◌, List, length, slice_index_or, Vec}
use Rattle.std.specs.declared.alloc.Global.{Global}

abbrev pub AreAnswers : (ℕ → List ℕ) → ℕ → List (Vec ℕ Global) → Type 0
AreAnswers answer jobs vs = (length vs ≡ jobs) × ((j : ℕ) (d : Vec ℕ Global) → j < jobs → (slice_index_or vs j d).items ≡ answer j)
