-- Reading a number.
use Rattle.std.proofs.Common.{◌≡◌, ℕ, ◌+◌, ◌-◌, ◌*◌, ◌≤◌, ◌<◌, Bool, true, false, ◌&&◌, List, Some, None, take, get_or, length, leb, ltb, arith, refl, sym, ◌∙◌, ap, ap₂, subst, ◌⊎◌, inl, inr}
use Rattle.std.proofs.lemmas.Bool.Decides.{nat_tests}
use Rattle.std.specs.Str.{all_ascii_digits}
use Rattle.std.specs.Str.Parse.{digits_value, AllDigits}
use Rattle.std.specs.Char.{digit_value}
use Rattle.std.specs.Int.{IsInRange}
use Rattle.std.proofs.lemmas.Str.Parse.{IsNumeralModel, numerals_by_value, tells_all_ascii_digits, digit_at, digits_value-take-le}
use Rattle.std.proofs.lemmas.Int.Digits.{digits_value_more, digits_more}
use Rattle.std.proofs.lemmas.List.{take_all}
use Rattle.std.proofs.lemmas.Str.{digit_value_digit}
use Rattle.bs_levels.specs.Words.{is_number, number_of, number_within, has_number_start}

own : IsNumeralModel (λ ds. all_ascii_digits ds ≡ true) (digits_value 10)
own = numerals_by_value _ tells_all_ascii_digits

and_both : (a b : Bool) → (a && b) ≡ true → (a ≡ true) × (b ≡ true)
and_both true b h = (refl, h)
and_both false b h = cc

by_cases : {G : Type 0} (b : Bool) → (b ≡ true → G) → (b ≡ false → G) → G
by_cases true p q = p refl
by_cases false p q = q refl

digit_small : (c : ℕ) → IsInRange 48 57 c → digit_value c < 10
digit_small c h = omega (arith, digit_value_digit c h)

digit_value_is : (c : ℕ) → IsInRange 48 57 c → digit_value c ≡ c - 48
digit_value_is c h = omega (arith, digit_value_digit c h)

step : (value : ℕ) (w : List ℕ) (i : ℕ) → i < length w → IsInRange 48 57 (get_or w i 0) → value ≡ digits_value 10 (take i w)
    → digits_value 10 (take (i + 1) w) ≡ value * 10 + (get_or w i 0 - 48)
step value w i lt r e = digits_value_more 10 w i lt ∙ ap₂ (λ m n. m * 10 + n) (sym e) (digit_value_is (get_or w i 0) r)

-- the test holds only of digits whose value is within the limit
none_from : (limit : ℕ) (w : List ℕ) → (AllDigits 10 w → digits_value 10 w ≤ limit → ⊥) → None ≡ number_within limit w
unfolding number_of
none_from limit w h =
    by_cases (is_number w)
    (λ e.
    let b = and_both (has_number_start w) _ e in
    rw e
    (by_cases (leb (digits_value 10 w) limit)
    (λ e2. absurd (h (own.to w b.1) (leb_le _ _ e2)))
    (λ e2. rw e2 refl)))
    (λ e. rw e refl)
  where
    leb_le : (m n : ℕ) → leb m n ≡ true → m ≤ n
    leb_le m n h = grind (arith, nat_tests)

pub no_digit : (limit value : ℕ) (w : List ℕ) (i : ℕ) → i < length w → value ≡ digits_value 10 (take i w)
    → (IsInRange 48 57 (get_or w i 0) × (value * 10 + (get_or w i 0 - 48) ≤ limit) → ⊥) → None ≡ number_within limit w
no_digit limit value w i lt e h = none_from limit w (λ d k.
    let r : IsInRange 48 57 (get_or w i 0) = digit_at w i d lt in
    let v : digits_value 10 (take (i + 1) w) ≡ value * 10 + (get_or w i 0 - 48) = step value w i lt r e in
    h (r, omega (arith, v, digits_value-take-le 10 w (i + 1) (omega arith))))

-- the start and a step of the loop over the digits
pub record IsRead (limit value : ℕ) (w : List ℕ) (i : ℕ) : Type 0 where
  pub digits : AllDigits 10 (take i w)
  pub value_is : value ≡ digits_value 10 (take i w)
  pub fits : (value ≤ limit) ⊎ (i ≡ 0)

pub read_step : (limit value : ℕ) (w : List ℕ) (i : ℕ) → i < length w → IsRead limit value w i → IsInRange 48 57 (get_or w i 0) → value * 10 + (get_or w i 0 - 48) ≤ limit
    → IsRead limit (value * 10 + (get_or w i 0 - 48)) w (i + 1)
read_step limit value w i lt r d h = record {
  digits = digits_more 10 w i lt r.digits (digit_small _ d);
  value_is = sym (step value w i lt d r.value_is);
  fits = inl h;
}

pub read_done : (limit value : ℕ) (w : List ℕ) → has_number_start w ≡ true → IsRead limit value w (length w) → Some value ≡ number_within limit w
unfolding number_of
read_done limit value w start r =
    let all : take (length w) w ≡ w = take_all (length w) w (omega arith) in
    let digits : AllDigits 10 w = subst (AllDigits 10) all r.digits in
    let e1 : all_ascii_digits w ≡ true = own.from w digits in
    let e2 : value ≡ digits_value 10 w = r.value_is ∙ ap (digits_value 10) all in
    let some : 0 < length w = lt_of (and_both (ltb 0 (length w)) _ start).0 in
    let fits : value ≤ limit = elim r.fits [ inl h ↦ h | inr h ↦ absurd (omega arith) ] in
    let e3 : leb value limit ≡ true = le_to _ _ fits in
    rw (start, e1, ← e2, e3) refl
  where
    lt_of : ltb 0 (length w) ≡ true → 0 < length w
    lt_of h = grind (arith, nat_tests)

    le_to : (m n : ℕ) → m ≤ n → leb m n ≡ true
    le_to m n h = grind (arith, nat_tests)

pub no_start : (limit : ℕ) (w : List ℕ) → has_number_start w ≡ false → None ≡ number_within limit w
unfolding number_of
no_start limit w h = rw h refl
