-- Products and sums gathered in whole numbers, in whatever order.
--
--   Multiplied               == of some factors the product of the numerators, that of the denominators, and the reach
--   unless zero n            == n, or 0 where it is to be
--   multiplied x             == those of one factor
--   both_multiplied x y      == those of the factors of x and of y
--   IsProductOf x values     == x is of factors whose numbers are the values
--
--   Total                    == a numerator, its denominator, and the sum of the magnitudes that went into it
--   gathered w negative x times == w with a product added, or subtracted, so often, over the least common multiple of the denominators
--   IsTotalWithin w          == neither the denominator nor the sum of the magnitudes exceeds M
--   term_of negative values  == the term that adds, or subtracts, the product of the values
--   Gathers z w terms        == w is what comes of the number z and of the terms
--
--   AlikeTerms ts us         == term by term the same sign, and the same values in whatever order
--   AnyOrderOfFactors        == a product is that of its values in any order
--   AnyOrderOfTerms          == what comes of terms comes of them in any order, the values of each in any order
--
-- Source: this project. The numerators of a sum may be gathered in any order, the written one is nothing to their total.
use Rattle.std.specs.Prelude.{◌≡◌, ℕ, ◌+◌, ◌*◌, ◌/◌, ◌≤◌, Bool, true, false, ℤ, pos, ◌+ℤ◌, ◌*ℤ◌, neg_ℤ, unsigned_abs, List, [], ◌∷◌, map}
use Rattle.std.specs.List.Sorted.{IsPermutation}
use Rattle.bs_frac.specs.Gcd.{gcd}
use Rattle.bs_frac.specs.Fraction.{Fraction}
use Rattle.bs_frac.specs.Checked.{largest}
use Rattle.bs_frac.specs.Written.{Term, add, subtract}
use Rattle.bs_frac.specs.Wholes.{ratio, number, number_term, tops, bottoms, or_one, reach, total_top, magnitudes, AllTermsFit}
use Rattle.bs_frac.specs.declared.coef.Coef.{Coef}

-- ---- products
pub record Multiplied : Type 0 where
  pub top : ℤ
  pub bottom : ℕ
  pub reach : ℕ

abbrev pub unless : Bool → ℕ → ℕ
unless true n = 0
unless false n = n

abbrev pub multiplied : Fraction → Multiplied
multiplied x = record { top = x.top; bottom = x.bottom; reach = or_one (unsigned_abs x.top) }

abbrev pub both_multiplied : Multiplied → Multiplied → Multiplied
both_multiplied x y = record { top = x.top *ℤ y.top; bottom = x.bottom * y.bottom; reach = x.reach * y.reach }

pub record IsProductOf (x : Multiplied) (values : List Coef) : Type 0 where
  pub factors : List Fraction
  pub numbers : values ≡ map number factors
  pub top : x.top ≡ tops factors
  pub bottom : x.bottom ≡ bottoms factors
  pub reach : x.reach ≡ reach factors

-- ---- sums
pub record Total : Type 0 where
  pub over : ℕ
  pub top : ℤ
  pub magnitude : ℕ

abbrev pub turned : Bool → ℤ → ℤ
turned true z = neg_ℤ z
turned false z = z

abbrev pub gathered : Total → Bool → Multiplied → ℕ → Total
gathered w negative x times =
    let scale = x.bottom / gcd w.over x.bottom in let other = w.over / gcd w.over x.bottom in
    record {
      over = w.over * scale;
      top = w.top *ℤ pos scale +ℤ turned negative (x.top *ℤ pos (other * times));
      magnitude = w.magnitude * scale + unsigned_abs x.top * (other * times);
    }

pub record IsTotalWithin (w : Total) : Type 0 where
  pub over : w.over ≤ largest
  pub magnitude : w.magnitude ≤ largest

abbrev pub term_of : Bool → List Coef → Term Coef
term_of true values = subtract values
term_of false values = add values

pub record Gathers (z : Coef) (w : Total) (terms : List (Term Coef)) : Type 0 where
  pub start : ℤ
  pub quotients : List (Term Fraction)
  pub numbers : terms ≡ map number_term quotients
  pub begins : z ≡ number (ratio start w.over)
  pub fit : AllTermsFit w.over quotients
  pub top : w.top ≡ start +ℤ total_top w.over quotients
  pub magnitude : w.magnitude ≡ unsigned_abs start + magnitudes w.over quotients

-- ---- another order
abbrev pub AlikeTerm : Term Coef → Term Coef → Type 0
AlikeTerm (add us) (add vs) = IsPermutation us vs
AlikeTerm (add us) (subtract vs) = ⊥
AlikeTerm (subtract us) (add vs) = ⊥
AlikeTerm (subtract us) (subtract vs) = IsPermutation us vs

abbrev pub AlikeTerms : List (Term Coef) → List (Term Coef) → Type 0
AlikeTerms [] [] = Unit {0}
AlikeTerms [] (u ∷ us) = ⊥
AlikeTerms (t ∷ ts) [] = ⊥
AlikeTerms (t ∷ ts) (u ∷ us) = AlikeTerm t u × AlikeTerms ts us

abbrev pub AnyOrderOfFactors : Type 0
AnyOrderOfFactors = (x : Multiplied) (us vs : List Coef) → IsProductOf x us → IsPermutation us vs → IsProductOf x vs

abbrev pub AnyOrderOfTerms : Type 0
AnyOrderOfTerms = (z : Coef) (w : Total) (terms ts us : List (Term Coef)) → Gathers z w terms → IsPermutation terms ts → AlikeTerms ts us → Gathers z w us
