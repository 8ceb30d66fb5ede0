-- When a sheet is right for a book of series: each coefficient in it is the written value of its pair.
--
--   IsWritten tables es i code c == i is a place of es, and c is the written value of the series there at the code, over the tableaux
--   Fits tables es sheet         == each coefficient of the sheet is the written value of its pair
--   FitsLaw                      == a sheet without pairs fits; it fits after the written value of a pair is kept; and it fits each
--                                   list that extends the one that it fits
--
-- Source: this project.
use Rattle.std.specs.Prelude.{◌≡◌, ℕ, ◌<◌, List, length, IfSome}
use Rattle.bs_frac.specs.declared.coef.Coef.{Coef}
use Rattle.bs_tableau.specs.Table.{Table}
use Rattle.bs_series.specs.Series.{Series}
use Rattle.bs_series.specs.SeriesCode.{Code, written_at}
use Rattle.bs_series.specs.Expressions.{series_at, Extends}
use Rattle.bs_alone.specs.Sheet.{Sheet, no_pairs, kept, kept_with}

abbrev pub IsWritten : List Table → List Series → ℕ → Code → Coef → Type 0
IsWritten tables es i code c = (i < length es) × (c ≡ written_at tables (series_at es i) code)

abbrev pub Fits : List Table → List Series → Sheet → Type 0
Fits tables es sheet = (i : ℕ) (code : Code) → IfSome (kept sheet i code) (IsWritten tables es i code)

pub record FitsLaw : Type 0 where
  pub empty : (tables : List Table) (es : List Series) → Fits tables es no_pairs
  pub keeps : (tables : List Table) (es : List Series) (sheet : Sheet) (i : ℕ) (code : Code) (c : Coef) → Fits tables es sheet
      → IsWritten tables es i code c → Fits tables es (kept_with sheet i code c)
  pub extends : (tables : List Table) (es es' : List Series) (sheet : Sheet) → Extends es es' → Fits tables es sheet → Fits tables es' sheet
