-- Fractions of whole numbers without bound.
--
--   Fraction           == a pair top / bottom of a whole number and a natural number; nothing is reduced
--   whole n            == n/1
--   sum_of x y         == of a/b and c/d: (ad + cb)/(bd)
--   opposite_of x      == (-a)/b
--   difference_of x y  == the sum with the second numerator negated
--   product_of x y     == (ac)/(bd)
--   reciprocal_of x    == b/a with the sign moved to the numerator; 0/1 where a is 0
--   quotient_of x y    == the product with the reciprocal: (ad)/(bc) with its sign moved to the numerator
--   IsSame x y         == ad = cb
--   SameFraction x y   == the two are equal fractions: ad = cb, and both denominators are positive
--   IsReduced x        == the denominator is positive and shares no factor with the numerator
--   signed s n         == -n where s is true, else n
--
-- Source: the usual construction of the rational numbers from pairs of whole numbers; 1/0 is 0, which no law rests on.
-- The code keeps reduced pairs alone, as a sign and two magnitudes.
use Rattle.std.specs.Prelude.{◌≡◌, ℕ, zero, suc, ◌*◌, ◌<◌, Bool, true, false, ℤ, pos, negsuc, ◌+ℤ◌, ◌*ℤ◌, neg_ℤ, unsigned_abs}
use Rattle.bs_frac.specs.Gcd.{gcd}

-- top / bottom
pub record Fraction : Type 0 where
  pub top : ℤ
  pub bottom : ℕ

abbrev pub whole : ℕ → Fraction
whole n = record { top = pos n; bottom = 1 }

abbrev pub sum_of : Fraction → Fraction → Fraction
sum_of x y = record { top = x.top *ℤ pos y.bottom +ℤ y.top *ℤ pos x.bottom; bottom = x.bottom * y.bottom }

abbrev pub opposite_of : Fraction → Fraction
opposite_of x = record { top = neg_ℤ x.top; bottom = x.bottom }

abbrev pub difference_of : Fraction → Fraction → Fraction
difference_of x y = sum_of x (opposite_of y)

abbrev pub product_of : Fraction → Fraction → Fraction
product_of x y = record { top = x.top *ℤ y.top; bottom = x.bottom * y.bottom }

-- d/a, by the sign of a
abbrev pub turned_over : ℤ → ℕ → Fraction
turned_over (pos zero) d = whole 0
turned_over (pos (suc n)) d = record { top = pos d; bottom = suc n }
turned_over (negsuc n) d = record { top = neg_ℤ (pos d); bottom = suc n }

abbrev pub reciprocal_of : Fraction → Fraction
reciprocal_of x = turned_over x.top x.bottom

abbrev pub quotient_of : Fraction → Fraction → Fraction
quotient_of x y = product_of x (reciprocal_of y)

-- ---- equality
abbrev pub IsSame : Fraction → Fraction → Type 0
IsSame x y = x.top *ℤ pos y.bottom ≡ y.top *ℤ pos x.bottom

pub record SameFraction (x y : Fraction) : Type 0 where
  pub left : 0 < x.bottom
  pub right : 0 < y.bottom
  pub cross : IsSame x y

pub record IsReduced (x : Fraction) : Type 0 where
  pub positive : 0 < x.bottom
  pub coprime : gcd (unsigned_abs x.top) x.bottom ≡ 1

-- ---- a sign and a magnitude
abbrev pub signed : Bool → ℕ → ℤ
signed true n = neg_ℤ (pos n)
signed false n = pos n
