-- The sign and the magnitude of a whole number, and that they give it back.
--
--   magnitude z   == |z|
--   is_below z    == z is below 0
--   signed_back   == the fields of a Frac are the sign, the magnitude and the denominator of what contracts see
--
-- Source: this project.
use Rattle.std.specs.Prelude.{◌≡◌, ℕ, suc, zero, ◌<◌, Bool, true, false, ℤ, pos, negsuc, refl}
use Rattle.std.proofs.Common.{arith}
use Rattle.bs_frac.specs.Fraction.{signed}
use Rattle.bs_frac.specs.declared.frac.Frac.TheInside.{Inside}

abbrev pub magnitude : ℤ → ℕ
magnitude (pos n) = n
magnitude (negsuc n) = suc n

abbrev pub is_below : ℤ → Bool
is_below (pos n) = false
is_below (negsuc n) = true

pub signed_back : (negative : Bool) (num den : ℕ) → (negative ≡ true → 0 < num)
    → let back : Inside = record { negative = is_below (signed negative num); num = magnitude (signed negative num); den = den } in
    let a : Inside = record { negative = negative; num = num; den = den } in back ≡ a
signed_back false num den h = refl
signed_back true (suc num) den h = refl
signed_back true zero den h = absurd (let p : 0 < 0 = h refl in omega arith)
