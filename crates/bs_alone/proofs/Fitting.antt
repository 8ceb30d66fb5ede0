-- A sheet goes on fitting.
use Rattle.std.proofs.Common.{ℕ, ◌<◌, List, length, Some, None, sym, ◌∙◌, ap, ap₂, subst, arith}
use Rattle.std.specs.Option.{IfSome}
use Rattle.bs_frac.specs.declared.coef.Coef.{Coef}
use Rattle.bs_tableau.specs.Table.{Table}
use Rattle.bs_series.specs.Series.{Series}
use Rattle.bs_series.specs.SeriesCode.{Code, written_at}
use Rattle.bs_series.specs.Expressions.{series_at, Extends}
use Rattle.bs_alone.specs.Sheet.{Sheet, no_pairs, kept, kept_with}
use Rattle.bs_alone.specs.Fits.{IsWritten, Fits}
use Rattle.bs_alone.proofs.Pairs.{kept-cases, none_kept}

pub fits-none : (tables : List Table) (es : List Series) → Fits tables es no_pairs
fits-none tables es i code = subst (λ o. IfSome o (IsWritten tables es i code)) (sym (none_kept i code)) tt

pub fits-with : (tables : List Table) (es : List Series) (sheet : Sheet) (i : ℕ) (code : Code) (c : Coef) → Fits tables es sheet
    → IsWritten tables es i code c → Fits tables es (kept_with sheet i code c)
fits-with tables es sheet i code c fits right j other =
    kept-cases (λ o. IfSome o (IsWritten tables es j other)) sheet i code c j other
    (λ e f. (subst (λ m. m < length es) (sym e) right.0, right.1 ∙ ap₂ (λ m s. written_at tables (series_at es m) s) (sym e) (sym f)))
    (λ _. fits j other)

pub fits-more : (tables : List Table) (es es' : List Series) (sheet : Sheet) → Extends es es' → Fits tables es sheet → Fits tables es' sheet
fits-more tables es es' sheet more fits j other =
    elim (kept sheet j other) as (λ o. IfSome o (IsWritten tables es j other) → IfSome o (IsWritten tables es' j other)) [
      | None ↦ λ _. tt
      | Some c ↦ λ right. (omega (arith, right.0, more.grows), right.1 ∙ ap (λ s. written_at tables s other) (sym (more.stays j right.0)))
    ] (fits j other)
