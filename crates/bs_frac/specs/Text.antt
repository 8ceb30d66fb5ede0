-- Fractions as text.
--
--   fraction_text x        == the text of a fraction: `-` where it is negative, the numerator's digits, and where the
--                             denominator is not 1 also `/` and the denominator's digits
--   is_number w            == the word is a NUMBER: `0`, or a digit 1 to 9 and any digits
--   number_within limit w  == the value of a NUMBER that is at most the limit; None of any other word
--   magnitudes_of w        == n and 1 of a NUMBER n; n and d of `n/d`, two NUMBERs of which d is not 0; each at most M
--   literal_of w           == the pair that the word writes: an optional `-` and then magnitudes; None of any other word
--   reduced_of x           == the numerator and the denominator divided by their greatest common divisor
--   fraction_of w          == that pair, reduced
--
-- Source: this project. The code reads the digits of a number from the left and stops at the first that goes beyond the limit.
use Rattle.std.specs.Prelude.{ℕ, ◌+◌, ◌/◌, Bool, true, false, cond, ◌==◌, ◌&&◌, ℤ, pos, negsuc, List, [], ◌++◌, decimal, unsigned_abs, Option, Some, None, nat_le, nat_lt, slice_index, length, not, ◌||◌, codes, position, take, drop, option_map}
use Rattle.std.specs.Str.{all_ascii_digits}
use Rattle.std.specs.Str.Parse.{digits_value}
use Rattle.bs_frac.specs.Gcd.{gcd}
use Rattle.bs_frac.specs.Fraction.{Fraction, signed}
use Rattle.bs_frac.specs.Checked.{largest, over}

-- ---- writing
abbrev pub sign_text : ℤ → List ℕ
sign_text (pos n) = []
sign_text (negsuc n) = codes "-"

abbrev pub bottom_text : ℕ → List ℕ
bottom_text d = cond (d == 1) [] (codes "/" ++ decimal d)

abbrev pub fraction_text : Fraction → List ℕ
fraction_text x = sign_text x.top ++ decimal (unsigned_abs x.top) ++ bottom_text x.bottom

-- ---- reading
-- not empty, and no zero in front of other digits
abbrev pub has_number_start : List ℕ → Bool
has_number_start w = nat_lt 0 (length w) && (not (slice_index w 0 == 48) || nat_le (length w) 1)

abbrev pub is_number : List ℕ → Bool
is_number w = has_number_start w && all_ascii_digits w

unfoldable pub number_within : ℕ → List ℕ → Option ℕ
number_within limit w = cond (is_number w && nat_le (digits_value 10 w) limit) (Some (digits_value 10 w)) None

-- a numerator and a denominator that is not 0
abbrev pub both : Option ℕ → Option ℕ → Option (ℕ × ℕ)
both (Some n) (Some d) = cond (d == 0) None (Some (n, d))
both (Some n) None = None
both None d = None

abbrev pub divided : Option ℕ → List ℕ → Option (ℕ × ℕ)
divided None w = option_map (λ n. (n, 1)) (number_within largest w)
divided (Some slash) w = both (number_within largest (take slash w)) (number_within largest (drop (slash + 1) w))

abbrev pub magnitudes_of : List ℕ → Option (ℕ × ℕ)
magnitudes_of w = divided (position (λ b. b == 47) w) w

abbrev pub signed_pair : Bool → ℕ × ℕ → Fraction
signed_pair negative p = record { top = signed negative p.0; bottom = p.1 }

abbrev pub starts_with_minus : List ℕ → Bool
starts_with_minus w = slice_index w 0 == 45

abbrev pub literal_of : List ℕ → Option Fraction
literal_of w = cond (starts_with_minus w) (option_map (signed_pair true) (magnitudes_of (drop 1 w))) (option_map (signed_pair false) (magnitudes_of w))

-- the reduced pair of a fraction
abbrev pub reduced_of : Fraction → Fraction
reduced_of x = let g = gcd (unsigned_abs x.top) x.bottom in record { top = over x.top g; bottom = x.bottom / g }

unfoldable pub fraction_of : List ℕ → Option Fraction
fraction_of w = option_map reduced_of (literal_of w)
