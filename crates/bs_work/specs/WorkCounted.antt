-- The terms that the work on a reply counts, and the pairs that wait in it for their values.
--
--   completed es step   == the terms of the pair that a step keeps; 0 of another step
--   completed_on es o   == of a step, if there is one
--   work_begun es w     == the terms that are counted of the pairs that wait in the work
--   work_waiting w      == these pairs, the one that was asked for first
--   work_waited w found == the same, with the pair whose look is now answered with nothing
--   MovesOn ws o ws'    == a Look leaves the pairs that wait, a Keep is of the last and takes it away; with all else no pair waits, before and after
--   ApartOn ws step     == the pair of a Look or a Keep and the pairs that wait then are all different
--
-- Source: this project.
use Rattle.std.specs.Prelude.{◌≡◌, ℕ, List, [], ◌∷◌, ◌++◌, Option, Some, None}
use Rattle.bs_frac.specs.declared.coef.Coef.{Coef}
use Rattle.bs_series.specs.Series.{Series}
use Rattle.bs_series.specs.PlanItems.{terms}
use Rattle.bs_series.specs.Expressions.{series_at}
use Rattle.bs_eval.specs.Counted.{begun, waiting, opened}
use Rattle.bs_series.specs.Needed.{AreApart}
use Rattle.bs_eval.specs.declared.pair.Pair.{Pair}
use Rattle.bs_work.specs.declared.step.Step.{Step}
use Rattle.bs_work.specs.declared.step.Step.TheVariants.{Intern, Release, Same, Look, Keep, Done}
use Rattle.bs_work.specs.declared.work.Job.{Job}
use Rattle.bs_work.specs.declared.work.Work.{Work}

abbrev pub completed : List Series → Step → ℕ
completed es (Intern tree code) = 0
completed es (Release tree) = 0
completed es (Same left right) = 0
completed es (Look id code) = 0
completed es (Keep id code v) = terms (series_at es id) code
completed es (Done reply) = 0

abbrev pub completed_on : List Series → Option Step → ℕ
completed_on es None = 0
completed_on es (Some step) = completed es step

abbrev pub job_begun : List Series → Option Job → ℕ
job_begun es None = 0
job_begun es (Some job) = begun es job.eval

abbrev pub work_begun : List Series → Work → ℕ
work_begun es w = job_begun es w.job

abbrev pub job_waiting : Option Job → List Pair
job_waiting None = []
job_waiting (Some job) = waiting job.eval

abbrev pub work_waiting : Work → List Pair
work_waiting w = job_waiting w.job

abbrev pub job_waited : Option Job → Option Coef → List Pair
job_waited None found = []
job_waited (Some job) found = waiting job.eval ++ opened job.eval found

abbrev pub work_waited : Work → Option Coef → List Pair
work_waited w found = job_waited w.job found

abbrev pub MovesOn : List Pair → Option Step → List Pair → Type 0
MovesOn ws None ws' = (ws ≡ []) × (ws' ≡ [])
MovesOn ws (Some (Intern tree code)) ws' = (ws ≡ []) × (ws' ≡ [])
MovesOn ws (Some (Release tree)) ws' = (ws ≡ []) × (ws' ≡ [])
MovesOn ws (Some (Same left right)) ws' = (ws ≡ []) × (ws' ≡ [])
MovesOn ws (Some (Look id code)) ws' = ws' ≡ ws
MovesOn ws (Some (Keep id code v)) ws' = ws ≡ ws' ++ record { series = id; code = code } ∷ []
MovesOn ws (Some (Done reply)) ws' = (ws ≡ []) × (ws' ≡ [])

abbrev pub ApartOn : List Pair → Step → Type 0
ApartOn ws (Intern tree code) = Unit {0}
ApartOn ws (Release tree) = Unit {0}
ApartOn ws (Same left right) = Unit {0}
ApartOn ws (Look id code) = AreApart (ws ++ record { series = id; code = code } ∷ [])
ApartOn ws (Keep id code v) = AreApart (ws ++ record { series = id; code = code } ∷ [])
ApartOn ws (Done reply) = Unit {0}
