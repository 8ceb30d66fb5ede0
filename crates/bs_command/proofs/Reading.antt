-- Reading the numbers that a command asks for.
use Rattle.std.proofs.Common.{◌≡◌, ℕ, ◌<◌, ◌&&◌, Bool, true, false, cond, List, Option, Some, None, Ok, Err, refl, sym, ◌∙◌, ap, subst, inl, inr, arith, nat_le, nat_lt}
use Rattle.std.specs.Str.Parse.{digits_value}
use Rattle.std.proofs.lemmas.Bool.{cases_Bool}
use Rattle.std.proofs.lemmas.Bool.Decides.{nat_tests}
use Rattle.bs_frac.specs.Text.{is_number, number_within}
use Rattle.bs_command.specs.Asked.{number_from_one, number_to}
use Rattle.bs_command.specs.declared.number.NumberFault.TheVariants.{NoNumber, AboveLimit}

-- the number within the limit, by whether the word is a number and by its value
abbrev within_by : Bool → ℕ → ℕ → Option ℕ
within_by is limit value = cond (is && nat_le value limit) (Some value) None

abbrev asked_by : Bool → ℕ → Option ℕ
asked_by is value = cond (is && nat_lt 0 value) (Some value) None

within-is : (limit : ℕ) (w : List ℕ) → number_within limit w ≡ within_by (is_number w) limit (digits_value 10 w)
unfolding number_within
within-is limit w = refl

none_is_not : (n : ℕ) → None ≡ Some n → ⊥
none_is_not n e = cc

some_same : (m n : ℕ) → Some m ≡ Some n → m ≡ n
some_same m n e = cc

given : (is : Bool) (most value n : ℕ) → within_by is most value ≡ Some n → 0 < n → Ok n ≡ number_to most (asked_by is value)
given false most value n e h = cc
given true most value n e h =
    elim (cases_Bool (nat_le value most)) [
      | inl small ↦
          let same : value ≡ n = some_same value n (rw small at e) in
          let positive : nat_lt 0 value ≡ true = (let p : 0 < value = omega (arith, same, h) in grind (arith, nat_tests)) in
          let not_more : nat_lt most value ≡ false = grind (arith, nat_tests) in
          rw (positive, not_more) (ap (λ m. Ok m) (sym same))
      | inr large ↦ absurd (none_is_not n (rw large at e))
    ]

above : (most value : ℕ) → within_by true most value ≡ None → Err AboveLimit ≡ number_to most (asked_by true value)
above most value e =
    elim (cases_Bool (nat_le value most)) [
      | inl small ↦ let e2 : Some value ≡ None = rw small at e in cc
      | inr large ↦
          let positive : nat_lt 0 value ≡ true = grind (arith, nat_tests) in
          let more : nat_lt most value ≡ true = grind (arith, nat_tests) in
          rw (positive, more) refl
    ]

no_number : (most value : ℕ) → Err NoNumber ≡ number_to most (asked_by false value)
no_number most value = refl

zero_asked : (is : Bool) (most value : ℕ) → within_by is most value ≡ Some 0 → Err NoNumber ≡ number_to most (asked_by is value)
zero_asked false most value e = cc
zero_asked true most value e =
    elim (cases_Bool (nat_le value most)) [
      | inl small ↦
          let same : value ≡ 0 = some_same value 0 (rw small at e) in
          rw same refl
      | inr large ↦ absurd (none_is_not 0 (rw large at e))
    ]

pub number-given : (most n : ℕ) (w : List ℕ) → number_within most w ≡ Some n → 0 < n → Ok n ≡ number_to most (number_from_one w)
number-given most n w e h = given (is_number w) most (digits_value 10 w) n (sym (within-is most w) ∙ e) h

pub number-above : (most : ℕ) (w : List ℕ) → number_within most w ≡ None → is_number w ≡ true → Err AboveLimit ≡ number_to most (number_from_one w)
number-above most w e is =
    let e2 : within_by true most (digits_value 10 w) ≡ None = subst (λ b. within_by b most (digits_value 10 w) ≡ None) is (sym (within-is most w) ∙ e) in
    subst (λ b. Err AboveLimit ≡ number_to most (asked_by b (digits_value 10 w))) (sym is) (above most (digits_value 10 w) e2)

pub number-none : (most : ℕ) (w : List ℕ) → is_number w ≡ false → Err NoNumber ≡ number_to most (number_from_one w)
number-none most w is = subst (λ b. Err NoNumber ≡ number_to most (asked_by b (digits_value 10 w))) (sym is) (no_number most (digits_value 10 w))

pub number-zero : (most : ℕ) (w : List ℕ) → number_within most w ≡ Some 0 → Err NoNumber ≡ number_to most (number_from_one w)
number-zero most w e = zero_asked (is_number w) most (digits_value 10 w) (sym (within-is most w) ∙ e)
