-- The work on a reply that wants coefficients: what it has still to write, and how far it is from its end.
--
--   pair_of task            == the series and the tree whose value the task awaits
--   to_come ts es task      == what it writes from now on, over the tableaux ts and the book's expressions es
--   to_come_next ts es task == the same of a task that comes next; nothing where no task comes
--   whole_reply ts es w     == the reply of the work: what is written of it, and what is to come
--   turns_behind es task    == how many turns of the evaluation there are at most behind the value that is awaited
--   next_left es task       == how many there are of a task that comes next, with those of its value; none where no task comes
--   work_left es w          == how many there are left
--   turns_to_print s p      == how many there are at most for the coefficients of a series at the trees to order p
--   turns_to_compare a b p  == and for the comparison of two series to order p
--   IsTask es task          == its series are in the book, and have the colours of its trees
--   IsNext es task          == of a task that comes next: this, and the series whose value it awaits is in the book and has the tree's colours
--   IsWork ts es w          == the evaluation is sound, and is that of the awaited value
--   IsHeldWork es m w       == its numbers of trees are those of the memory
--   IsHanded ts es w found  == what was found is nothing, or the written value of the pair that was looked up
--   StepsOn ts es w step    == the step is a look for what is awaited from then on, or the keep of a written value, behind which nothing is awaited
--
-- Source: this project.
use Rattle.std.specs.Prelude.{◌≡◌, ℕ, suc, ◌+◌, ◌<◌, List, [], ◌∷◌, ◌++◌, length, flat_map, sum_by, Option, Some, None}
use Rattle.bs_frac.specs.declared.coef.Coef.{Coef}
use Rattle.bs_enum.specs.AllTrees.{trees_up_to}
use Rattle.bs_tableau.specs.Table.{Table}
use Rattle.bs_series.specs.Series.{Series, colours_of}
use Rattle.bs_series.specs.SeriesCode.{Code, written_at, IsColouredCode}
use Rattle.bs_series.specs.Expressions.{series_at}
use Rattle.bs_eval.specs.Machine.{asked, awaiting, IsSound, IsTruthfulOf, IsHeld}
use Rattle.bs_eval.specs.Turns.{turns, left}
use Rattle.bs_eval.specs.declared.memory.Memory.{Memory}
use Rattle.bs_eval.specs.declared.pair.Pair.{Pair}
use Rattle.bs_reply.specs.Lines.{coeff_line}
use Rattle.bs_work.specs.SeriesReplies.{term_at, difference, first_told, compared_over}
use Rattle.bs_work.specs.declared.step.Step.{Step}
use Rattle.bs_work.specs.declared.step.Step.TheVariants.{Intern, Release, Same, Look, Keep, Done}
use Rattle.bs_work.specs.declared.task.Task.{Task}
use Rattle.bs_work.specs.declared.task.Task.TheVariants.{Coeff, Print, Left, Right}
use Rattle.bs_work.specs.declared.work.Job.{Job}
use Rattle.bs_work.specs.declared.work.Work.{Work}

abbrev pub pair_of : Task → Pair
pair_of (Coeff id code) = record { series = id; code = code }
pair_of (Print id code behind) = record { series = id; code = code }
pair_of (Left a b code behind) = record { series = a; code = code }
pair_of (Right a b code x behind) = record { series = b; code = code }

-- ---- what is written from now on
abbrev pub to_come : List Table → List Series → Task → List ℕ
to_come tables es (Coeff id code) = coeff_line (written_at tables (series_at es id) code)
to_come tables es (Print id code behind) =
    term_at tables (series_at es id) code ++ flat_map (term_at tables (series_at es id)) behind.left
to_come tables es (Left a b code behind) = compared_over tables (series_at es a) (series_at es b) (code ∷ behind.left)
to_come tables es (Right a b code x behind) =
    first_told (difference code x (written_at tables (series_at es b) code)) (compared_over tables (series_at es a) (series_at es b) behind.left)

abbrev pub to_come_next : List Table → List Series → Option Task → List ℕ
to_come_next tables es None = []
to_come_next tables es (Some task) = to_come tables es task

abbrev pub to_come_of : List Table → List Series → Option Job → List ℕ
to_come_of tables es None = []
to_come_of tables es (Some job) = to_come tables es job.task

abbrev pub whole_reply : List Table → List Series → Work → List ℕ
whole_reply tables es w = w.draft.items ++ to_come_of tables es w.job

-- ---- the turns that are left
abbrev pub one_more : Series → Code → ℕ
one_more s code = suc (turns s code)

abbrev pub both_more : Series → Series → Code → ℕ
both_more a b code = one_more a code + one_more b code

abbrev pub turns_behind : List Series → Task → ℕ
turns_behind es (Coeff id code) = 0
turns_behind es (Print id code behind) = sum_by (one_more (series_at es id)) behind.left
turns_behind es (Left a b code behind) =
    one_more (series_at es b) code + sum_by (both_more (series_at es a) (series_at es b)) behind.left
turns_behind es (Right a b code x behind) = sum_by (both_more (series_at es a) (series_at es b)) behind.left

abbrev pub pair_turns : List Series → Pair → ℕ
pair_turns es p = turns (series_at es p.series) p.code

abbrev pub next_left : List Series → Option Task → ℕ
next_left es None = 0
next_left es (Some task) = suc (pair_turns es (pair_of task) + turns_behind es task)

abbrev pub job_left : List Series → Option Job → ℕ
job_left es None = 0
job_left es (Some job) = suc (left es job.eval + turns_behind es job.task)

abbrev pub work_left : List Series → Work → ℕ
work_left es w = job_left es w.job

abbrev pub turns_to_print : Series → ℕ → ℕ
turns_to_print s p = suc (sum_by (one_more s) (trees_up_to p (colours_of s)))

abbrev pub turns_to_compare : Series → Series → ℕ → ℕ
turns_to_compare a b p = suc (sum_by (both_more a b) (trees_up_to p (colours_of a)))

-- ---- soundness
abbrev pub HasColoured : List Series → ℕ → Code → Type 0
HasColoured es id code = IsColouredCode (colours_of (series_at es id)) code

-- the series is in the book, and trees of so many colours are trees of its own
pub record IsOver (es : List Series) (id k : ℕ) : Type 0 where
  pub known : id < length es
  pub colours : colours_of (series_at es id) ≡ k

abbrev pub IsTask : List Series → Task → Type 0
IsTask es (Coeff id code) = Unit {0}
IsTask es (Print id code behind) = IsOver es id behind.colours
IsTask es (Left a b code behind) = IsOver es a behind.colours × IsOver es b behind.colours × HasColoured es b code
IsTask es (Right a b code x behind) = IsOver es a behind.colours × IsOver es b behind.colours

-- the series is in the book, and has the colours of the tree
abbrev pub IsAsked : List Series → Pair → Type 0
IsAsked es p = (p.series < length es) × HasColoured es p.series p.code

abbrev pub IsNext : List Series → Option Task → Type 0
IsNext es None = Unit {0}
IsNext es (Some task) = IsTask es task × IsAsked es (pair_of task)

pub record IsJobSound (tables : List Table) (es : List Series) (job : Job) : Type 0 where
  pub sound : IsSound tables es job.eval
  pub asked : asked job.eval ≡ pair_of job.task
  pub task : IsTask es job.task

abbrev pub IsJob : List Table → List Series → Option Job → Type 0
IsJob tables es None = Unit {0}
IsJob tables es (Some job) = IsJobSound tables es job

abbrev pub IsWork : List Table → List Series → Work → Type 0
IsWork tables es w = IsJob tables es w.job

abbrev pub IsHeldJob : List Series → Memory → Option Job → Type 0
IsHeldJob es m None = Unit {0}
IsHeldJob es m (Some job) = IsHeld es m job.eval

abbrev pub IsHeldWork : List Series → Memory → Work → Type 0
IsHeldWork es m w = IsHeldJob es m w.job

-- ---- questions and answers
abbrev pub job_awaiting : Option Job → Option Pair
job_awaiting None = None
job_awaiting (Some job) = awaiting job.eval

abbrev pub work_awaiting : Work → Option Pair
work_awaiting w = job_awaiting w.job

abbrev pub IsHanded : List Table → List Series → Work → Option Coef → Type 0
IsHanded tables es w found = IsTruthfulOf tables es found (work_awaiting w)

abbrev pub StepsOn : List Table → List Series → Work → Step → Type 0
StepsOn tables es w (Intern tree code) = ⊥
StepsOn tables es w (Release tree) = ⊥
StepsOn tables es w (Same x y) = ⊥
StepsOn tables es w (Look id code) = (id < length es) × (work_awaiting w ≡ Some (record { series = id; code = code }))
StepsOn tables es w (Keep id code v) = (id < length es) × (v ≡ written_at tables (series_at es id) code) × (work_awaiting w ≡ None)
StepsOn tables es w (Done reply) = ⊥
