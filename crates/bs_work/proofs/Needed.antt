-- What the work on a reply wants: the trees of a reply are those that its work wants, and a step asks for nothing else.
use Rattle.std.proofs.Common.{◌≡◌, ℕ, List, [], ◌∷◌, ◌++◌, flat_map, Option, Some, sym, subst}
use Rattle.std.specs.List.{AllByRecursion}
use Rattle.bs_tree.specs.Tree.{Tree}
use Rattle.bs_tree.specs.Code.{tree_of}
use Rattle.bs_tree.specs.ListLaws.{all_implied}
use Rattle.bs_series.specs.Series.{Series}
use Rattle.bs_series.specs.SeriesCode.{Code}
use Rattle.bs_series.specs.Needed.{Among}
use Rattle.bs_series.specs.Expressions.{series_at}
use Rattle.bs_work.specs.Needed.{need_at, need_both}
use Rattle.bs_work.specs.WorkNeeded.{IsWanted, AreBothWanted, NeedsTask, NeedsJob, NeedsNoMore, KeepsNeed}
use Rattle.bs_work.specs.declared.step.Step.{Step}
use Rattle.bs_work.specs.declared.step.Step.TheVariants.{Look, Keep}
use Rattle.bs_work.specs.declared.task.Task.{Task}
use Rattle.bs_work.specs.declared.work.Job.{Job}
use Rattle.bs_work.specs.declared.work.Work.{Work}
use Rattle.bs_work.specs.Works.{pair_of}
use Rattle.bs_frac.specs.declared.coef.Coef.{Coef}
use Rattle.bs_eval.specs.Machine.{asked}
use Rattle.bs_eval.specs.Needs.{IsFresh}
use Rattle.bs_eval.proofs.Chain.{among_front, among_behind}
use Rattle.bs_eval.specs.declared.pair.Pair.{Pair}
use Rattle.bs_eval.specs.declared.eval.Ask.{Ask}
use Rattle.bs_eval.specs.declared.eval.Ask.TheVariants as ask
use Rattle.bs_eval.specs.declared.eval.Eval.{Eval}

-- ---- the trees of a reply
wanted_more : (es : List Series) (ms ns : List (Series × Tree)) (id : ℕ) → ((p : Series × Tree) → Among p ms → Among p ns) → (cs : List Code) → AllByRecursion (IsWanted es ms id) cs → AllByRecursion (IsWanted es ns id) cs
wanted_more es ms ns id more cs h = all_implied (IsWanted es ms id) (IsWanted es ns id) (λ code w. record { reads = λ p a. more p (w.reads p a) }) cs h

both_more : (es : List Series) (ms ns : List (Series × Tree)) (a b : ℕ) → ((p : Series × Tree) → Among p ms → Among p ns) → (cs : List Code) → AllByRecursion (AreBothWanted es ms a b) cs → AllByRecursion (AreBothWanted es ns a b) cs
both_more es ms ns a b more cs h =
    all_implied (AreBothWanted es ms a b) (AreBothWanted es ns a b) (λ code w. (record { reads = λ p k. more p (w.0.reads p k) }, record { reads = λ p k. more p (w.1.reads p k) })) cs h

pub all_wanted : (es : List Series) (id : ℕ) (cs : List Code) → AllByRecursion (IsWanted es (flat_map (need_at (series_at es id)) cs) id) cs
all_wanted es id [] = tt
all_wanted es id (c ∷ cs) =
    let s = series_at es id in
    (record { reads = λ p h. among_front p (need_at s c) (flat_map (need_at s) cs) h }, wanted_more es (flat_map (need_at s) cs) (need_at s c ++ flat_map (need_at s) cs) id (λ p h. among_behind p (need_at s c) (flat_map (need_at s) cs) h) cs (all_wanted es id cs))

pub all_both_wanted : (es : List Series) (i j : ℕ) (cs : List Code) → AllByRecursion (AreBothWanted es (flat_map (need_both (series_at es i) (series_at es j)) cs) i j) cs
all_both_wanted es i j [] = tt
all_both_wanted es i j (c ∷ cs) =
    let a = series_at es i in
    let b = series_at es j in
    let rest = flat_map (need_both a b) cs in (
      (
        record { reads = λ p h. among_front p (need_both a b c) rest (among_front p (need_at a c) (need_at b c) h) },
        record { reads = λ p h. among_front p (need_both a b c) rest (among_behind p (need_at a c) (need_at b c) h) },
      ),
      both_more es rest (need_both a b c ++ rest) i j (λ p h. among_behind p (need_both a b c) rest h) cs (all_both_wanted es i j cs),
    )

-- ---- a step of the work
job_needs : (es : List Series) (ns : List (Series × Tree)) (o : Option Job) (job : Job) → o ≡ Some job → NeedsJob es ns o → NeedsTask es ns job.task
job_needs es ns o job e h = subst (NeedsJob es ns) e h

needs_job : (es : List Series) (ns : List (Series × Tree)) (o : Option Job) (after : Eval) (task : Task) → o ≡ Some (record { eval = after; task = task }) → NeedsTask es ns task → NeedsJob es ns o
needs_job es ns o after task e h = subst (NeedsJob es ns) (sym e) h

-- what is looked for is needed for the value that the task awaits
pub keeps_look : (es : List Series) (old new : Work) (job : Job) (after : Eval) (answer : Ask) (id : ℕ) (code : Code) (ws : List Pair) → old.job ≡ Some job → new.job ≡ Some (record { eval = after; task = job.task }) → asked job.eval ≡ pair_of job.task
    → IsFresh es (asked job.eval) answer ws → answer ≡ ask.Look id code → KeepsNeed es old new (Look id code)
keeps_look es old new job after answer id code ws before is of fresh e = record {
  needs = λ ns h.
      let k : NeedsTask es ns job.task = job_needs es ns old.job job before h in
      let f : IsFresh es (pair_of job.task) (ask.Look id code) ws = subst (λ (q : Pair). IsFresh es q (ask.Look id code) ws) of (subst (λ (a : Ask). IsFresh es (asked job.eval) a ws) e fresh) in
      (needs_job es ns new.job after job.task is k, k.0.reads (series_at es id, tree_of code) f.1);
}

pub keeps_keep : (es : List Series) (old new : Work) (job : Job) (after : Eval) (id : ℕ) (code : Code) (v : Coef) → old.job ≡ Some job → new.job ≡ Some (record { eval = after; task = job.task }) → KeepsNeed es old new (Keep id code v)
keeps_keep es old new job after id code v before is =
    record { needs = λ ns h. (needs_job es ns new.job after job.task is (job_needs es ns old.job job before h), tt) }

-- what is wanted after some steps
pub needs_refl : (es : List Series) (w : Work) → NeedsNoMore es w w
needs_refl es w = record { needs = λ ns h. h }

pub needs_then : (es : List Series) (a b c : Work) → NeedsNoMore es a b → NeedsNoMore es b c → NeedsNoMore es a c
needs_then es a b c f g = record { needs = λ ns h. g.needs ns (f.needs ns h) }

pub keeps_then : (es : List Series) (a b c : Work) (step : Step) → NeedsNoMore es a b → KeepsNeed es b c step → KeepsNeed es a c step
keeps_then es a b c step f g = record { needs = λ ns h. g.needs ns (f.needs ns h) }
