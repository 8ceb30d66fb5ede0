-- The job of a task, and series of so many colours.
use Rattle.std.proofs.Common.{◌≡◌, ℕ, ◌<◌, List, length, Option, Some, sym, ◌∙◌, ap₂, subst}
use Rattle.bs_tableau.specs.Table.{Table}
use Rattle.bs_series.specs.Series.{Series, colours_of}
use Rattle.bs_series.specs.SeriesCode.{Code}
use Rattle.bs_series.specs.Expressions.{series_at}
use Rattle.bs_eval.specs.Machine.{asked, IsSound}
use Rattle.bs_eval.specs.declared.eval.Eval.{Eval}
use Rattle.bs_work.specs.Works.{pair_of, IsAsked, IsNext, IsJobSound, IsOver}
use Rattle.bs_work.specs.declared.task.Task.{Task}

-- an evaluation that was begun at the pair of a task
pub job-sound : (tables : List Table) (es : List Series) (next : Option Task) (task : Task) (eval : Eval) (id : ℕ) (code : Code) → next ≡ Some task → id ≡ (pair_of task).series → code ≡ (pair_of task).code
    → asked eval ≡ record { series = id; code = code } → (IsAsked es (record { series = id; code = code }) → IsSound tables es eval) → IsNext es next → IsJobSound tables es (record { eval = eval; task = task })
job-sound tables es next task eval id code is id_is code_is asked_is sound h =
    let both : IsNext es (Some task) = subst (IsNext es) is h in
    let same : record { series = id; code = code } ≡ pair_of task = ap₂ (λ (i : ℕ) (c : Code). record { series = i; code = c }) id_is code_is in
    record { sound = sound (subst (IsAsked es) (sym same) both.1); asked = asked_is ∙ same; task = both.0 }

pub series-over : (es : List Series) (id k m n : ℕ) → id < length es → m ≡ colours_of (series_at es id) → n ≡ m → k ≡ n → IsOver es id k
series-over es id k m n known m_is n_is k_is = record { known = known; colours = sym (k_is ∙ n_is ∙ m_is) }
