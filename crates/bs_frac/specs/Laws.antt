-- Laws of the checked operations, of lowest terms and of the greatest common divisor.
--
--   GivesExact checked exact == where the checked operation on reduced fractions is no overflow, its result is reduced and the
--                               same fraction as that of the exact operation
--   StaysWithin checked      == and neither of its magnitudes exceeds M
--   SumLaw, DifferenceLaw, ProductLaw, QuotientLaw == both, for each operation; a quotient by 0 is 0 on both sides
--   FractionLaw              == the same for the reduced fraction of a sign and two magnitudes
--   SumOverflows x y         == of a/b and c/d with g = gcd(b, d), p = a(d/g), q = c(b/g), s = p + q and h = gcd(s, g):
--                               |p|, |q|, |s| or (b/g)(d/h) exceeds M
--   ProductOverflows x y     == with g = gcd(a, d) and h = gcd(c, b): |(a/g)(c/h)| or (b/h)(d/g) exceeds M
--   FractionOverflows n d    == with g = gcd(n, d): n/g or d/g exceeds M
--   SumOverflowLaw, DifferenceOverflowLaw, ProductOverflowLaw, QuotientOverflowLaw, FractionOverflowLaw == an operation is an
--                               overflow exactly there; a difference as the sum with the opposite, a quotient as the product
--                               with the reciprocal
--   OneReducedLaw            == each fraction is the same as just one reduced pair
--   GcdLaw                   == the gcd divides both numbers, and each common divisor divides it
--
-- Source: Knuth (1998), The Art of Computer Programming 2, 4.5.1 and 4.5.2.
use Rattle.std.specs.Prelude.{◌≡◌, ◌<◌, ◌*◌, ◌/◌, ◌↔◌, ◌⊎◌, ℕ, pos, ◌+ℤ◌, ◌*ℤ◌, unsigned_abs, Bool, Option, Some, IsNone}
use Rattle.std.specs.Int.{IsGcd}
use Rattle.bs_frac.specs.Gcd.{gcd}
use Rattle.bs_frac.specs.declared.frac.TheConstants.{M}
use Rattle.bs_frac.specs.Fraction.{Fraction, SameFraction, IsReduced, signed, opposite_of, reciprocal_of, sum_of, difference_of, product_of, quotient_of}
use Rattle.bs_frac.specs.Checked.{over, IsWithin, checked_sum, checked_difference, checked_product, checked_quotient, checked_fraction}

abbrev pub GivesExact : (Fraction → Fraction → Option Fraction) → (Fraction → Fraction → Fraction) → Type 0
GivesExact checked exact = (x y z : Fraction) → IsReduced x → IsReduced y → checked x y ≡ Some z → IsReduced z × SameFraction z (exact x y)

abbrev pub StaysWithin : (Fraction → Fraction → Option Fraction) → Type 0
StaysWithin checked = (x y z : Fraction) → checked x y ≡ Some z → IsWithin z

abbrev pub SumLaw : Type 0
SumLaw = GivesExact checked_sum sum_of × StaysWithin checked_sum

abbrev pub DifferenceLaw : Type 0
DifferenceLaw = GivesExact checked_difference difference_of × StaysWithin checked_difference

abbrev pub ProductLaw : Type 0
ProductLaw = GivesExact checked_product product_of × StaysWithin checked_product

abbrev pub QuotientLaw : Type 0
QuotientLaw = GivesExact checked_quotient quotient_of × StaysWithin checked_quotient

abbrev pub FractionLaw : Type 0
FractionLaw = (negative : Bool) (num den : ℕ) (z : Fraction) → 0 < den → checked_fraction negative num den ≡ Some z
    → IsReduced z × IsWithin z × SameFraction z (record { top = signed negative num; bottom = den })

-- ---- where an overflow comes
abbrev pub SumOverflows : Fraction → Fraction → Type 0
SumOverflows x y =
    let g = gcd x.bottom y.bottom in
    let p = x.top *ℤ pos (y.bottom / g) in
    let q = y.top *ℤ pos (x.bottom / g) in
    let s = p +ℤ q in
    let h = gcd (unsigned_abs s) g in
    (M < unsigned_abs p) ⊎ ((M < unsigned_abs q) ⊎ ((M < unsigned_abs s) ⊎ (M < x.bottom / g * (y.bottom / h))))

abbrev pub ProductOverflows : Fraction → Fraction → Type 0
ProductOverflows x y =
    let g = gcd (unsigned_abs x.top) y.bottom in
    let h = gcd (unsigned_abs y.top) x.bottom in
    (M < unsigned_abs (over x.top g *ℤ over y.top h)) ⊎ (M < x.bottom / h * (y.bottom / g))

abbrev pub FractionOverflows : ℕ → ℕ → Type 0
FractionOverflows num den = let g = gcd num den in (M < num / g) ⊎ (M < den / g)

abbrev pub SumOverflowLaw : Type 0
SumOverflowLaw = (x y : Fraction) → IsNone (checked_sum x y) ↔ SumOverflows x y

abbrev pub DifferenceOverflowLaw : Type 0
DifferenceOverflowLaw = (x y : Fraction) → IsNone (checked_difference x y) ↔ SumOverflows x (opposite_of y)

abbrev pub ProductOverflowLaw : Type 0
ProductOverflowLaw = (x y : Fraction) → IsNone (checked_product x y) ↔ ProductOverflows x y

abbrev pub QuotientOverflowLaw : Type 0
QuotientOverflowLaw = (x y : Fraction) → IsNone (checked_quotient x y) ↔ ProductOverflows x (reciprocal_of y)

abbrev pub FractionOverflowLaw : Type 0
FractionOverflowLaw = (negative : Bool) (num den : ℕ) → IsNone (checked_fraction negative num den) ↔ FractionOverflows num den

-- ---- lowest terms
abbrev pub OneReducedLaw : Type 0
OneReducedLaw = (x : Fraction) → 0 < x.bottom
    → (y : Fraction) × (IsReduced y × SameFraction y x × ((z : Fraction) → IsReduced z → SameFraction z x → z ≡ y))

abbrev pub GcdLaw : Type 0
GcdLaw = (a b : ℕ) → IsGcd a b (gcd a b)
