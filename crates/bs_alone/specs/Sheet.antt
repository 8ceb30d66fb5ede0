-- A sheet of remembered coefficients: a finite map from pairs of a series and a code.
--
--   pair_cmp               == the order of pairs: by the series first, then by the code
--   Sheet                  == a finite map from pairs to coefficients
--   no_pairs               == the sheet without pairs
--   kept sheet i code      == the coefficient of a pair; None exactly where the pair is not in the sheet
--   kept_with sheet i code c == the sheet with this coefficient at the pair, and all other pairs as they are
--   IsOther i code j other == the second pair is another one than the first
--   KeptLaw                == a pair that is kept is found, each other pair has what it had, and the sheet without pairs has none
--
-- A series is named by its place in its book.
--
-- Source: the kit's finite maps.
-- The code has a search tree, whose keys are a series and the number of a code.
use Rattle.std.specs.Prelude.{◌≡◌, ℕ, ℤ, Option, Some, None, refl}
use Rattle.std.specs.Coded.{Coded, code_by, coded_ℕ, coded_ℤ, coded_list, coded_option, coded×}
use Rattle.std.specs.declared.cmp.Ordering.{Ordering}
use Rattle.std.specs.FinMap as map
use Rattle.std.specs.Ordering.{nat_cmp, ordering_then}
use Rattle.bs_frac.specs.Fraction.{Fraction}
use Rattle.bs_frac.specs.declared.coef.Coef.{Coef}
use Rattle.bs_frac.specs.declared.coef.Coef.TheVariants.{Value, Overflow}
use Rattle.bs_tree.specs.Canonical.{sequence_cmp}
use Rattle.bs_series.specs.SeriesCode.{Code}

abbrev pub pair_cmp : ℕ × Code → ℕ × Code → Ordering
pair_cmp x y = ordering_then (nat_cmp x.0 y.0) (sequence_cmp x.1 y.1)

abbrev pub Sheet : Type 0
Sheet = map.FinMap pair_cmp Coef

abbrev pub no_pairs : Sheet
no_pairs = map.empty

abbrev pub kept : Sheet → ℕ → Code → Option Coef
kept sheet i code = map.get sheet (i, code)

abbrev pub kept_with : Sheet → ℕ → Code → Coef → Sheet
kept_with sheet i code c = map.insert sheet (i, code) c

abbrev pub IsOther : ℕ → Code → ℕ → Code → Type 0
IsOther i code j other = ¬ ((j ≡ i) × (other ≡ code))

pub record KeptLaw : Type 0 where
  pub found : (sheet : Sheet) (i : ℕ) (code : Code) (c : Coef) → kept (kept_with sheet i code c) i code ≡ Some c
  pub others : (sheet : Sheet) (i : ℕ) (code : Code) (c : Coef) (j : ℕ) (other : Code) → IsOther i code j other
      → kept (kept_with sheet i code c) j other ≡ kept sheet j other
  pub empty : (i : ℕ) (code : Code) → kept no_pairs i code ≡ None

-- ---- a sheet as ghost data, by which a proof tells two apart
abbrev fraction_code : Coded Fraction
fraction_code = code_by (ℤ × ℕ) (coded× coded_ℤ coded_ℕ) (λ x. (x.top, x.bottom)) (λ p. record { top = p.0; bottom = p.1 }) (λ _. refl)

abbrev value_of : Coef → Option Fraction
value_of (Value x) = Some x
value_of Overflow = None

abbrev coef_of : Option Fraction → Coef
coef_of (Some x) = Value x
coef_of None = Overflow

pub coef_back : (c : Coef) → coef_of (value_of c) ≡ c
coef_back (Value x) = refl
coef_back Overflow = refl

abbrev coef_code : Coded Coef
coef_code = code_by (Option Fraction) (coded_option fraction_code) value_of coef_of coef_back

abbrev pub sheet_code : Coded Sheet
sheet_code = map.code (coded× coded_ℕ (coded_list (coded× coded_ℕ coded_ℕ))) coef_code
