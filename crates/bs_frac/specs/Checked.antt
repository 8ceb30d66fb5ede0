-- The checked operations on reduced fractions: the reduced result, or None where a number on the way is too large.
--
--   largest                  == M, the largest magnitude of a numerator and of a denominator
--   IsWithin x               == neither magnitude of x exceeds it
--   checked_sum x y          == with g = gcd(b, d), p = a(d/g), q = c(b/g), s = p + q, h = gcd(s, g):
--                               (s/h) / ((b/g)(d/h)); None exactly where |p|, |q|, |s| or the denominator exceeds M
--   checked_product x y      == with g1 = gcd(a, d), g2 = gcd(c, b): (a/g1)(c/g2) / ((b/g2)(d/g1));
--                               None exactly where one of the two products exceeds M
--   checked_difference x y   == the checked sum with the second numerator negated
--   checked_quotient x y     == the checked product with the reciprocal
--   checked_fraction s n d   == the reduced fraction of a sign and two magnitudes; None where a reduced magnitude exceeds M
--
-- Source: Knuth (1998), The Art of Computer Programming 2, 4.5.1; the bound M and its places are this project's own.
-- The code has shorter ways for zero and for numbers of 64 bits, and finds the gcd by shifts and differences.
use Rattle.std.specs.Prelude.{ℕ, suc, ◌*◌, ◌/◌, ◌≤◌, ◌&&◌, Bool, cond, ℤ, pos, negsuc, ◌+ℤ◌, ◌*ℤ◌, neg_ℤ, unsigned_abs, nat_le, Option, Some, None}
use Rattle.bs_frac.specs.declared.frac.TheConstants.{M}
use Rattle.bs_frac.specs.Gcd.{gcd}
use Rattle.bs_frac.specs.Fraction.{Fraction, opposite_of, reciprocal_of, signed}

-- the quotient of a whole number by a natural number that divides it
abbrev pub over : ℤ → ℕ → ℤ
over (pos n) k = pos (n / k)
over (negsuc n) k = neg_ℤ (pos (suc n / k))

-- the largest magnitude, named once in the code
abbrev pub largest : ℕ
largest = M

-- neither magnitude exceeds the largest
pub record IsWithin (x : Fraction) : Type 0 where
  pub top : unsigned_abs x.top ≤ largest
  pub bottom : x.bottom ≤ largest

-- ---- the checked sum of a/b and c/d
unfoldable pub sum_gcd : Fraction → Fraction → ℕ
sum_gcd x y = gcd x.bottom y.bottom

unfoldable pub sum_left : Fraction → Fraction → ℤ
sum_left x y = x.top *ℤ pos (y.bottom / sum_gcd x y)

unfoldable pub sum_right : Fraction → Fraction → ℤ
sum_right x y = y.top *ℤ pos (x.bottom / sum_gcd x y)

unfoldable pub sum_top : Fraction → Fraction → ℤ
sum_top x y = sum_left x y +ℤ sum_right x y

unfoldable pub sum_common : Fraction → Fraction → ℕ
sum_common x y = gcd (unsigned_abs (sum_top x y)) (sum_gcd x y)

unfoldable pub sum_bottom : Fraction → Fraction → ℕ
sum_bottom x y = x.bottom / sum_gcd x y * (y.bottom / sum_common x y)

abbrev pub sum_reduced : Fraction → Fraction → Fraction
sum_reduced x y = record { top = over (sum_top x y) (sum_common x y); bottom = sum_bottom x y }

abbrev pub is_small : ℕ → Bool
is_small n = nat_le n largest

-- the reduced sum, or None for an overflow
abbrev pub checked_sum : Fraction → Fraction → Option Fraction
checked_sum x y =
    cond (is_small (unsigned_abs (sum_left x y)) && is_small (unsigned_abs (sum_right x y)) && is_small (unsigned_abs (sum_top x y)) && is_small (sum_bottom x y))
    (Some (sum_reduced x y)) None

-- ---- the checked product
unfoldable pub cross_gcd : Fraction → Fraction → ℕ
cross_gcd x y = gcd (unsigned_abs x.top) y.bottom

unfoldable pub product_top : Fraction → Fraction → ℤ
product_top x y = over x.top (cross_gcd x y) *ℤ over y.top (cross_gcd y x)

unfoldable pub product_bottom : Fraction → Fraction → ℕ
product_bottom x y = x.bottom / cross_gcd y x * (y.bottom / cross_gcd x y)

abbrev pub product_reduced : Fraction → Fraction → Fraction
product_reduced x y = record { top = product_top x y; bottom = product_bottom x y }

abbrev pub checked_product : Fraction → Fraction → Option Fraction
checked_product x y =
    cond (is_small (unsigned_abs (product_top x y)) && is_small (product_bottom x y)) (Some (product_reduced x y)) None

-- ---- the reduced fraction of a sign and two magnitudes
abbrev pub checked_fraction : Bool → ℕ → ℕ → Option Fraction
checked_fraction negative num den =
    cond (is_small (num / gcd num den) && is_small (den / gcd num den)) (Some (record { top = signed negative (num / gcd num den); bottom = den / gcd num den })) None

-- ---- the checked difference and quotient
abbrev pub checked_difference : Fraction → Fraction → Option Fraction
checked_difference x y = checked_sum x (opposite_of y)

abbrev pub checked_quotient : Fraction → Fraction → Option Fraction
checked_quotient x y = checked_product x (reciprocal_of y)
