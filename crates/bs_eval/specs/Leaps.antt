-- Leaps of a sum: over the terms of gathered rows at once.
--
--   key_values tables es cs r key == those of the factors of a row: the outer series at its first tree, the inner at its forest
--   key_term tables es cs r key   == the term that a rule makes of them
--   IsSigned o                == a term with this operation is added or subtracted
--   IsOver shelf r n of but leap == the leap is that of the rule over the rows of a tree, which stand for the lists `of` its code, those gathered that `but` leaves
--   IsLeap es cs steps leap   == of the steps behind the first one, the next are those of the rows that are gathered
--
-- Source: this project. The terms of a sum may be added in any order as long as its numbers, and the sum of their magnitudes, stay within M.
use Rattle.std.specs.Prelude.{◌≡◌, ℕ, suc, List, [], ◌∷◌, ◌++◌, map, length, Bool, true, false}
use Rattle.bs_frac.specs.Written.{Term}
use Rattle.bs_frac.specs.Gathered.{term_of}
use Rattle.bs_frac.specs.declared.coef.Coef.{Coef}
use Rattle.bs_tableau.specs.Table.{Table}
use Rattle.bs_catalog.specs.Shelf.{Shelf, Numbers, AreRows}
use Rattle.bs_catalog.specs.Gathered.{AreGathered}
use Rattle.bs_series.specs.Series.{Series}
use Rattle.bs_series.specs.SeriesCode.{Code, written_at}
use Rattle.bs_series.specs.Expressions.{series_at}
use Rattle.bs_eval.specs.Steps.{Step}
use Rattle.bs_eval.specs.Terms.{code_at}
use Rattle.bs_eval.specs.Values.{forest_values}
use Rattle.bs_eval.specs.Rules.{outer_in, part_step, codes_at, AreIn}
use Rattle.bs_eval.specs.declared.term.Operation.{Operation}
use Rattle.bs_eval.specs.declared.term.Operation.TheVariants.{Add, Subtract, Divide}
use Rattle.bs_eval.specs.declared.plan.PartRule.{PartRule}
use Rattle.bs_eval.specs.declared.leap.Leap.{Leap}

abbrev pub key_values : List Table → List Series → List Code → PartRule → ℕ × ℕ → List Coef
key_values tables es cs r key = written_at tables (outer_in es r.outer) (code_at cs key.0) ∷ forest_values tables es cs r.inner key.1

abbrev pub is_negative : Operation → Bool
is_negative Add = false
is_negative Subtract = true
is_negative Divide = false

abbrev pub key_term : List Table → List Series → List Code → PartRule → ℕ × ℕ → Term Coef
key_term tables es cs r key = term_of (is_negative r.operation) (key_values tables es cs r key)

abbrev pub IsSigned : Operation → Type 0
IsSigned Add = Unit {0}
IsSigned Subtract = Unit {0}
IsSigned Divide = ⊥

pub record IsOver (shelf : Shelf) (r : PartRule) (n : ℕ) (of : Code → List (List Code)) (but : List (List ℕ) → List (List ℕ)) (leap : Leap) : Type 0 where
  pub rule_is : leap.rule ≡ r
  pub gathered : AreGathered shelf.codes leap.rows.now (but leap.rows.now) leap.gathered.now
  pub rows_are : (code : Code) → Numbers shelf.codes n code → AreRows shelf.codes leap.rows.now (of code)

pub record IsLeap (es : List Series) (cs : List Code) (steps : List Step) (leap : Leap) : Type 0 where
  pub rows : List (List ℕ)
  pub first : Step
  pub behind : List Step
  pub steps_are : steps ≡ first ∷ (map (part_step es leap.rule) (codes_at cs rows) ++ behind)
  pub gathered : AreGathered cs leap.rows.now rows leap.gathered.now
  pub inside : AreIn (length cs) leap.rows.now
  pub signed : IsSigned leap.rule.operation
  pub count : suc (length rows) ≡ length leap.rows.now
