-- The replies to questions about series.
--
--   term_at ts s code         == the line of a tree with the coefficient of the series s, as it is written over the tableaux ts
--   print_reply ts s p        == the reply with the coefficients at the trees to order p: their number and the empty value, then a line
--                                for each
--   difference code x y       == the line that tells the two coefficients apart: one of them is an overflow, or they differ
--   compared_over ts a b codes == the line of the first tree at which the two series are told apart; else that they are equal
--   equal_reply ts a b p      == the reply of the comparison to order p: the empty values come first, then the trees
--
-- Fractions are reduced, so that equal ones are one pair.
--
-- Source: this project's format of replies. The code works a coefficient out once, and stops at the first difference.
use Rattle.std.specs.Prelude.{ℕ, List, [], ◌∷◌, ◌++◌, flat_map, Option, Some, None, if◌then◌else◌}
use Rattle.bs_frac.specs.declared.coef.Coef.{Coef}
use Rattle.bs_frac.specs.declared.coef.Coef.TheVariants.{Value, Overflow}
use Rattle.bs_enum.specs.AllTrees.{trees_to, trees_up_to}
use Rattle.bs_tableau.specs.Table.{Table}
use Rattle.bs_series.specs.Series.{Series, empty_value, colours_of}
use Rattle.bs_series.specs.SeriesCode.{Code, written_at}
use Rattle.bs_reply.specs.Verdicts.{same_pair}
use Rattle.bs_reply.specs.Lines.{print_line, term_line, equal_yes_line, equal_empty_line, equal_at_line}

abbrev pub term_at : List Table → Series → Code → List ℕ
term_at tables s code = term_line code (written_at tables s code)

abbrev pub print_reply : List Table → Series → ℕ → List ℕ
print_reply tables s p =
    print_line (trees_to p (colours_of s)) (empty_value s) ++ flat_map (term_at tables s) (trees_up_to p (colours_of s))

-- ---- comparison
abbrev pub difference : Code → Coef → Coef → Option (List ℕ)
difference code Overflow y = Some (equal_at_line code Overflow y)
difference code (Value x) Overflow = Some (equal_at_line code (Value x) Overflow)
difference code (Value x) (Value y) = if same_pair x y then None else Some (equal_at_line code (Value x) (Value y))

abbrev pub first_told : Option (List ℕ) → List ℕ → List ℕ
first_told (Some line) later = line
first_told None later = later

abbrev pub compared_over : List Table → Series → Series → List Code → List ℕ
compared_over tables a b [] = equal_yes_line
compared_over tables a b (code ∷ codes) =
    first_told (difference code (written_at tables a code) (written_at tables b code)) (compared_over tables a b codes)

abbrev pub equal_reply : List Table → Series → Series → ℕ → List ℕ
equal_reply tables a b p =
    if same_pair (empty_value a) (empty_value b)
    then compared_over tables a b (trees_up_to p (colours_of a))
    else equal_empty_line (empty_value a) (empty_value b)
