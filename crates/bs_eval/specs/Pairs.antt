-- Series at trees whose values are asked for.
--
--   IsLooked s        == the values of the series are looked up: it is no exact flow, identity or average
--   IsPair es p       == the id is one of the book, and the values of its series are looked up; the tree has its colours
--   value_at_pair tables es p == the written value of a pair of an id and a code
--
-- Source: this project.
use Rattle.std.specs.Prelude.{◌<◌, List, length}
use Rattle.bs_frac.specs.declared.coef.Coef.{Coef}
use Rattle.bs_tableau.specs.Table.{Table}
use Rattle.bs_series.specs.Series.{Series, exact, identity, average, colours_of}
use Rattle.bs_series.specs.SeriesCode.{IsColouredCode, written_at}
use Rattle.bs_series.specs.Expressions.{series_at}
use Rattle.bs_eval.specs.declared.pair.Pair.{Pair}

abbrev pub IsLooked : Series → Type 0
IsLooked (exact k) = ⊥
IsLooked (identity k) = ⊥
IsLooked (average k) = ⊥
IsLooked _ = Unit {0}

pub record IsPair (es : List Series) (p : Pair) : Type 0 where
  pub in_book : p.series < length es
  pub looked : IsLooked (series_at es p.series)
  pub coloured : IsColouredCode (colours_of (series_at es p.series)) p.code

abbrev pub value_at_pair : List Table → List Series → Pair → Coef
value_at_pair tables es p = written_at tables (series_at es p.series) p.code
