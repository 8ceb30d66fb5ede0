-- Values and plans at the tree that a code describes.
--
--   Code                    == a list of pairs (level, colour)
--   value_at tables s code  == the value of s at the tree of the code
--   written_at tables s code == its written value there
--   plan_at s code          == the plan there, its trees written as codes
--   factor_at A look f, carried_out_at A look p == factors and plans by codes, over the numbers A
--   leaf_code               == the code of the leaf of colour 0
--   IsColouredCode k code   == each colour of the code is below k
--   HasItsColours f         == the series of a factor has coefficients at trees of its tree's colours
--
-- Source: this project.
use Rattle.std.specs.Prelude.{ℕ, ◌<◌, List, [], ◌∷◌, map, length, Option, Some, None, option_map, All}
use Rattle.bs_frac.specs.Fraction.{Fraction}
use Rattle.bs_frac.specs.Written.{Arithmetic, written_sum}
use Rattle.bs_frac.specs.declared.coef.Coef.{Coef}
use Rattle.bs_tree.specs.Tree.{Tree}
use Rattle.bs_tree.specs.Canonical.{level_sequence}
use Rattle.bs_tree.specs.Code.{tree_of}
use Rattle.bs_tableau.specs.Table.{Table}
use Rattle.bs_series.specs.Series.{Series, colours_of}
use Rattle.bs_series.specs.Value.{value, written, signed_by}
use Rattle.bs_series.specs.Plan.{Factor, fixed, at, turned, Plan, plan, term_map, OnFactor}

abbrev pub Code : Type 0
Code = List (ℕ × ℕ)

abbrev pub leaf_code : Code
leaf_code = (1, 0) ∷ []

abbrev pub IsColouredCode : ℕ → Code → Type 0
IsColouredCode k code = All (λ pair. pair.1 < k) code

abbrev pub HasItsColours : Factor Code → Type 0
HasItsColours = OnFactor (λ s code. IsColouredCode (colours_of s) code)

abbrev pub value_at : List Table → Series → Code → Fraction
value_at tables s code = value tables s (tree_of code)

abbrev pub written_at : List Table → Series → Code → Coef
written_at tables s code = written tables s (tree_of code)

abbrev pub coded_factor : Factor Tree → Factor Code
coded_factor (fixed c) = fixed c
coded_factor (at s t) = at s (level_sequence t)
coded_factor (turned s t) = turned s (level_sequence t)

abbrev pub coded_plan : Plan Tree → Plan Code
coded_plan p = record { terms = map (term_map coded_factor) p.terms; divisor = option_map coded_factor p.divisor }

abbrev pub plan_at : Series → Code → Plan Code
plan_at s code = coded_plan (plan s (tree_of code))

module _ (A : Arithmetic) (look : Series → Code → A.Number) where
  abbrev pub factor_at : Factor Code → A.Number
  factor_at (fixed c) = A.of c
  factor_at (at s code) = look s code
  factor_at (turned s code) = signed_by A (length code) (look s code)

  abbrev pub divided_at : A.Number → Option (Factor Code) → A.Number
  divided_at z None = z
  divided_at z (Some f) = A.quotient z (factor_at f)

  abbrev pub carried_out_at : Plan Code → A.Number
  carried_out_at p = divided_at (written_sum A (map (term_map factor_at) p.terms)) p.divisor
