-- Whether an order condition holds: a coefficient beside the value that it has to have.
--
--   same_pair x y      == the two fractions are one pair; of reduced fractions: they are equal
--   verdict c target   == Holds where the coefficient is the target, Fails where it is another fraction, and Unknown where it is an
--                         overflow
--
-- Both are reduced, so that equal fractions are one pair.
--
-- Source: Butcher (2021), order conditions; the third answer is this project's.
-- The code compares a sign and two magnitudes.
use Rattle.std.specs.Prelude.{◌≡◌, ℤ, pos, negsuc, Bool, false, ◌==◌, ◌&&◌, if◌then◌else◌, refl}
use Rattle.bs_frac.specs.Fraction.{Fraction}
use Rattle.bs_frac.specs.declared.coef.Coef.{Coef}
use Rattle.bs_frac.specs.declared.coef.Coef.TheVariants.{Value, Overflow}
use Rattle.bs_reply.specs.declared.verdict.Verdict.{Verdict}
use Rattle.bs_reply.specs.declared.verdict.Verdict.TheVariants.{Holds, Fails, Unknown}

abbrev pub same_whole : ℤ → ℤ → Bool
same_whole (pos m) (pos n) = m == n
same_whole (pos m) (negsuc n) = false
same_whole (negsuc m) (pos n) = false
same_whole (negsuc m) (negsuc n) = m == n

abbrev pub same_pair : Fraction → Fraction → Bool
same_pair x y = same_whole x.top y.top && (x.bottom == y.bottom)

abbrev pub verdict : Coef → Fraction → Verdict
verdict (Value x) target = if same_pair x target then Holds else Fails
verdict Overflow target = Unknown

half : verdict (Value (record { top = pos 1; bottom = 2 })) (record { top = pos 1; bottom = 2 }) ≡ Holds
half = refl

third : verdict (Value (record { top = pos 1; bottom = 3 })) (record { top = pos 1; bottom = 2 }) ≡ Fails
third = refl

no_value : verdict Overflow (record { top = pos 1; bottom = 2 }) ≡ Unknown
no_value = refl
