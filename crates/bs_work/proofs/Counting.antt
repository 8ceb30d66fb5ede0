-- What the work on a reply counts, and the pairs that wait in it.
use Rattle.std.proofs.Common.{◌≡◌, ℕ, List, [], ◌∷◌, ◌++◌, length, Option, Some, None, slice_get, append-nil, arith, refl, ◌∙◌, ap, ap₂, subst}
use Rattle.std.specs.List.{AllByRecursion}
use Rattle.std.proofs.lemmas.Option.{slice_get_within}
use Rattle.bs_frac.specs.declared.coef.Coef.{Coef}
use Rattle.bs_series.specs.Series.{Series}
use Rattle.bs_series.specs.SeriesCode.{Code}
use Rattle.bs_eval.specs.Counted.{frames_begun, frames_waiting, begun, waiting, opened_at, Moves}
use Rattle.bs_eval.specs.Frames.{IsPlaced}
use Rattle.bs_eval.specs.Machine.{HasNumber, looked_up}
use Rattle.bs_eval.specs.declared.frame.Frame.{Frame}
use Rattle.bs_eval.specs.declared.memory.Memory.{Memory}
use Rattle.bs_eval.specs.declared.pair.Pair.{Pair}
use Rattle.bs_eval.specs.declared.eval.State.{State as EvalState}
use Rattle.bs_eval.specs.declared.eval.State.TheVariants as state
use Rattle.bs_eval.specs.declared.eval.Ask.{Ask}
use Rattle.bs_eval.specs.declared.eval.Ask.TheVariants.{Done as Ended}
use Rattle.bs_eval.specs.declared.eval.Eval.{Eval}
use Rattle.bs_eval.proofs.Counting.{none_begun}
use Rattle.bs_work.specs.WorkCounted.{job_begun, job_waiting, job_waited}
use Rattle.bs_work.specs.Works.{IsHeldJob, IsHeldWork, job_awaiting}
use Rattle.bs_work.specs.declared.work.Job.{Job}
use Rattle.bs_work.specs.declared.work.Work.{Work}

pub none_before : {X : Type 0} (xs ys : List X) → xs ++ ys ≡ [] → xs ≡ []
none_before [] ys h = refl
none_before (x ∷ xs) ys h = absurd cc

pub done_begun : (es : List Series) (a : Ask) (v : Coef) (ws : List Pair) (e : Eval) → a ≡ Ended v → Moves ws a (waiting e) → begun es e ≡ 0
done_begun es a v ws e h m = let k = subst (λ (b : Ask). Moves ws b (waiting e)) h m in none_begun es e.frames.items k.1

-- an evaluation whose numbers stand in each memory has not begun
abbrev pub bare : Memory → Memory
bare m = record m { trees = record m.trees { codes = [] } }

no_code : (n : ℕ) (code : Code) (cs : List Code) → cs ≡ [] → slice_get cs n ≡ Some code → ⊥
no_code n code cs e h = let l = slice_get_within cs n code h in let z = ap length e in omega (arith, l, z)

no_frames : (es : List Series) (m : Memory) (fs : List Frame) → m.trees.codes ≡ [] → AllByRecursion (IsPlaced es m) fs → fs ≡ []
no_frames es m [] e h = refl
no_frames es m (f ∷ fs) e h = absurd (no_code f.spot.tree f.code m.trees.codes e h.0.tree)

not_open : (m : Memory) (s : EvalState) → m.trees.codes ≡ [] → HasNumber m s → opened_at s None ≡ []
not_open m state.Begun e h = refl
not_open m (state.Looking p n) e h = absurd (no_code n p.code m.trees.codes e h)
not_open m (state.Kept p v) e h = refl
not_open m state.Ended e h = refl

pub record IsIdle (es : List Series) (job : Option Job) : Type 0 where
  pub begun : job_begun es job ≡ 0
  pub waited : job_waited job None ≡ []

pub idle_job : (es : List Series) (m : Memory) (job : Option Job) → m.trees.codes ≡ [] → IsHeldJob es m job → IsIdle es job
idle_job es m None e h = record { begun = refl; waited = refl }
idle_job es m (Some job) e h =
    let f : job.eval.frames.items ≡ [] = no_frames es m job.eval.frames.items e h.frames in
    record {
      begun = ap (frames_begun es) f;
      waited = ap₂ (λ (fs : List Frame) (ws : List Pair). frames_waiting fs ++ ws) f (not_open m job.eval.state e h.looked);
    }

pub idle_work : (es : List Series) (m : Memory) (w : Work) → ((k : Memory) → IsHeldWork es k w) → IsIdle es w.job
idle_work es m w h = idle_job es (bare m) w.job (bare_codes m) (h (bare m))
  where
    bare_codes : (k : Memory) → (bare k).trees.codes ≡ []
    bare_codes k = refl

-- ---- what waits behind a step, with the pair that was looked up
at_look : (s : EvalState) (p : Pair) → looked_up s ≡ Some p → opened_at s None ≡ p ∷ []
at_look state.Begun p h = absurd cc
at_look (state.Looking q n) p h = let e : q ≡ p = cc in ap (λ (x : Pair). x ∷ []) e
at_look (state.Kept q v) p h = absurd cc
at_look state.Ended p h = absurd cc

at_none : (s : EvalState) → looked_up s ≡ None → opened_at s None ≡ []
at_none state.Begun h = refl
at_none (state.Looking q n) h = absurd cc
at_none (state.Kept q v) h = refl
at_none state.Ended h = refl

at_found : (s : EvalState) (v : Coef) → opened_at s (Some v) ≡ []
at_found state.Begun v = refl
at_found (state.Looking q n) v = refl
at_found (state.Kept q x) v = refl
at_found state.Ended v = refl

pub job_look : (job : Option Job) (p : Pair) → job_awaiting job ≡ Some p → job_waited job None ≡ job_waiting job ++ p ∷ []
job_look None p h = absurd cc
job_look (Some job) p h = ap (λ (ws : List Pair). waiting job.eval ++ ws) (at_look job.eval.state p h)

pub job_none : (job : Option Job) → job_awaiting job ≡ None → job_waited job None ≡ job_waiting job
job_none None h = refl
job_none (Some job) h = ap (λ (ws : List Pair). waiting job.eval ++ ws) (at_none job.eval.state h) ∙ append-nil (waiting job.eval)

pub job_found : (job : Option Job) (v : Coef) → job_waited job (Some v) ≡ job_waiting job
job_found None v = refl
job_found (Some job) v = ap (λ (ws : List Pair). waiting job.eval ++ ws) (at_found job.eval.state v) ∙ append-nil (waiting job.eval)
