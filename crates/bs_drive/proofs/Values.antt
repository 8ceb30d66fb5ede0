-- Values over all tableaux of a script, and over those that a session sees.
use Rattle.std.proofs.Common.{◌≡◌, ℕ, zero, suc, ◌<◌, List, [], ◌∷◌, ◌++◌, length, take, Option, Some, None, IfSome, refl, sym, ◌∙◌, ap, subst}
use Rattle.std.specs.List.{zip}
use Rattle.bs_tree.specs.Code.{tree_of}
use Rattle.bs_tableau.specs.Table.{Table}
use Rattle.bs_script.specs.Blocks.{ScriptLines}
use Rattle.bs_frac.specs.declared.coef.Coef.{Coef}
use Rattle.bs_memo.specs.Entries.{IsValueOf, KeysTellSeries}
use Rattle.bs_series.specs.Series.{Series}
use Rattle.bs_series.specs.SeriesCode.{Code, written_at}
use Rattle.bs_series.specs.Keys.{key_of, IsKeyed}
use Rattle.bs_series.specs.Value.{written}
use Rattle.bs_series.specs.Accepted.{Suits}
use Rattle.bs_series.specs.Fronts.{IsSameOverFronts}
use Rattle.bs_series.specs.Expressions.{series_at}
use Rattle.bs_names.specs.Known.{plain}
use Rattle.bs_session.specs.Machine.{State, session_at, plain_of, Takes}
use Rattle.bs_work.specs.declared.step.Step.{Step}
use Rattle.bs_work.specs.declared.step.Step.TheVariants.{Intern, Release, Same, Look, Keep, Done}
use Rattle.bs_drive.specs.Shared.{IsFor, SameValues}

-- what is seen is a front of all
front_of : (above : ℕ) (names : List (List ℕ)) (tables : List Table) → (more : List Table) × (plain (take above (zip names tables)) ++ more ≡ tables)
front_of zero names tables = (tables, refl)
front_of (suc above) [] tables = (tables, refl)
front_of (suc above) (x ∷ names) [] = ([], refl)
front_of (suc above) (x ∷ names) (t ∷ tables) = let r = front_of above names tables in (r.0, ap (λ (ts : List Table). t ∷ ts) r.1)

pub same_values : (script : ScriptLines) (s : State) (tables : List Table) → script.tables ≡ tables → IsSameOverFronts s.space.book → Suits (plain_of script s) s.space.book → SameValues tables (plain_of script s) s.space.book
same_values script s tables all fronts suits i known t =
    let f = front_of (session_at script s.number).above script.table_names script.tables in
    subst (λ (ts : List Table). written ts (series_at s.space.book i) t ≡ written (plain_of script s) (series_at s.space.book i) t) (f.1 ∙ all) (fronts (plain_of script s) f.0 suits i known t)

-- what a step asks is asked over all
pub is_for : (script : ScriptLines) (old new : State) (tables : List Table) (step : Step) → SameValues tables (plain_of script new) new.space.book → Takes script old new step → IsFor tables new.space.book step
is_for script old new tables (Intern tree code) same takes = tt
is_for script old new tables (Release tree) same takes = tt
is_for script old new tables (Same left right) same takes = tt
is_for script old new tables (Look id code) same takes = takes.is.0
is_for script old new tables (Keep id code v) same takes = (takes.is.0, takes.is.1 ∙ sym (same id takes.is.0 (tree_of code)))
is_for script old new tables (Done reply) same takes = tt

-- ---- what a memo finds and keeps
pub value_told : (tables : List Table) (found : Option Coef) (s : Series) (bytes : List ℕ) (at code : Code) → IfSome found (λ v. IsValueOf tables bytes at v) → IsKeyed s → key_of s ≡ bytes → at ≡ code
    → IfSome found (λ v. v ≡ written_at tables s code)
value_told tables None s bytes at code told keyed is same = tt
value_told tables (Some v) s bytes at code told keyed is same = told s keyed is ∙ ap (written_at tables s) same

-- by the law that keys tell series
pub value_kept : KeysTellSeries → (tables : List Table) (s : Series) (bytes : List ℕ) (at code : Code) (v : Coef) → v ≡ written_at tables s code → IsKeyed s → key_of s ≡ bytes → at ≡ code → IsValueOf tables bytes at v
value_kept keys tables s bytes at code v is keyed told same =
    let there : IsValueOf tables (key_of s) code (written_at tables s code) = keys tables s code keyed in
    subst (λ (b : List ℕ). IsValueOf tables b at v) told
    (subst (λ (c : Code). IsValueOf tables (key_of s) c v) (sym same) (subst (λ (w : Coef). IsValueOf tables (key_of s) code w) (sym is) there))

-- what a memo finds is the value that the session wants
pub found_is : (script : ScriptLines) (new : State) (tables : List Table) (es : List Series) (found : Option Coef) (v : Coef) (id : ℕ) (code : Code) → SameValues tables (plain_of script new) new.space.book → es ≡ new.space.book → id < length new.space.book
    → IfSome found (λ w. w ≡ written_at tables (series_at es id) code) → found ≡ Some v → v ≡ written_at (plain_of script new) (series_at new.space.book id) code
found_is script new tables es found v id code same book known told is =
    let t : v ≡ written_at tables (series_at es id) code = subst (λ (o : Option Coef). IfSome o (λ w. w ≡ written_at tables (series_at es id) code)) is told in
    subst (λ (l : List Series). v ≡ written_at tables (series_at l id) code) book t ∙ same id known (tree_of code)
