-- That the work on a reply asks for nothing but what is needed.
--
--   IsWanted es ns id code == the pairs ns have all that the coefficient at the tree of the code needs
--   NeedsTask es ns task   == so it is of the coefficients that the task wants, the awaited one and those behind it
--   NeedsNext, NeedsJob    == the same of a task that comes next, and of a job; where there is none nothing is wanted
--   AreNeeded es ns w      == the same of all that the work wants
--   NeededOn es ns step    == a Look is for one of the pairs ns
--   NeedsNoMore es w w'    == whatever has all that the work wants has all that it wants afterwards
--   KeepsNeed es w w' step == whatever has all that the work wants has all that it wants after the step, and what the step looks for
--
-- Source: this project.
use Rattle.std.specs.Prelude.{ℕ, List, Option, Some, None}
use Rattle.std.specs.List.{AllByRecursion}
use Rattle.bs_tree.specs.Tree.{Tree}
use Rattle.bs_tree.specs.Code.{tree_of}
use Rattle.bs_series.specs.Series.{Series}
use Rattle.bs_series.specs.SeriesCode.{Code}
use Rattle.bs_series.specs.Needed.{need, Among}
use Rattle.bs_series.specs.Expressions.{series_at}
use Rattle.bs_work.specs.Works.{pair_of}
use Rattle.bs_work.specs.declared.step.Step.{Step}
use Rattle.bs_work.specs.declared.step.Step.TheVariants.{Intern, Release, Same, Look, Keep, Done}
use Rattle.bs_work.specs.declared.task.Task.{Task}
use Rattle.bs_work.specs.declared.task.Task.TheVariants.{Coeff, Print, Left, Right}
use Rattle.bs_work.specs.declared.work.Job.{Job}
use Rattle.bs_work.specs.declared.work.Work.{Work}

pub record IsWanted (es : List Series) (ns : List (Series × Tree)) (id : ℕ) (code : Code) : Type 0 where
  pub reads : (p : Series × Tree) → Among p (need (series_at es id) (tree_of code)) → Among p ns

abbrev pub AreBothWanted : List Series → List (Series × Tree) → ℕ → ℕ → Code → Type 0
AreBothWanted es ns a b code = IsWanted es ns a code × IsWanted es ns b code

abbrev pub NeedsBehind : List Series → List (Series × Tree) → Task → Type 0
NeedsBehind es ns (Coeff id code) = Unit {0}
NeedsBehind es ns (Print id code behind) = AllByRecursion (IsWanted es ns id) behind.left
NeedsBehind es ns (Left a b code behind) = IsWanted es ns b code × AllByRecursion (AreBothWanted es ns a b) behind.left
NeedsBehind es ns (Right a b code x behind) = AllByRecursion (AreBothWanted es ns a b) behind.left

abbrev pub NeedsTask : List Series → List (Series × Tree) → Task → Type 0
NeedsTask es ns task = IsWanted es ns (pair_of task).series (pair_of task).code × NeedsBehind es ns task

abbrev pub NeedsNext : List Series → List (Series × Tree) → Option Task → Type 0
NeedsNext es ns None = Unit {0}
NeedsNext es ns (Some task) = NeedsTask es ns task

abbrev pub NeedsJob : List Series → List (Series × Tree) → Option Job → Type 0
NeedsJob es ns None = Unit {0}
NeedsJob es ns (Some job) = NeedsTask es ns job.task

abbrev pub AreNeeded : List Series → List (Series × Tree) → Work → Type 0
AreNeeded es ns w = NeedsJob es ns w.job

abbrev pub NeededOn : List Series → List (Series × Tree) → Step → Type 0
NeededOn es ns (Intern tree code) = Unit {0}
NeededOn es ns (Release tree) = Unit {0}
NeededOn es ns (Same left right) = Unit {0}
NeededOn es ns (Look id code) = Among (series_at es id, tree_of code) ns
NeededOn es ns (Keep id code v) = Unit {0}
NeededOn es ns (Done reply) = Unit {0}

pub record NeedsNoMore (es : List Series) (old new : Work) : Type 0 where
  pub needs : (ns : List (Series × Tree)) → AreNeeded es ns old → AreNeeded es ns new

pub record KeepsNeed (es : List Series) (old new : Work) (step : Step) : Type 0 where
  pub needs : (ns : List (Series × Tree)) → AreNeeded es ns old → AreNeeded es ns new × NeededOn es ns step
