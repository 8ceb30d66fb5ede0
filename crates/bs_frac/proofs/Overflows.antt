-- An operation is an overflow exactly where one of its numbers exceeds M.
use Rattle.std.proofs.Common.{◌≡◌, ℕ, ◌/◌, ◌<◌, ◌↔◌, ◌⊎◌, inl, inr, ◌&&◌, Bool, true, false, cond, Some, None, arith, refl}
use Rattle.std.specs.Prelude.{unsigned_abs, IsNone}
use Rattle.std.proofs.lemmas.Bool.Decides.{nat_tests}
use Rattle.bs_frac.specs.Gcd.{gcd}
use Rattle.bs_frac.specs.Fraction.{Fraction, signed, opposite_of, reciprocal_of}
use Rattle.bs_frac.specs.Checked.{largest, is_small, sum_gcd, sum_left, sum_right, sum_top, sum_common, sum_bottom, sum_reduced, cross_gcd, product_top, product_bottom, product_reduced}
use Rattle.bs_frac.specs.Laws.{SumOverflowLaw, DifferenceOverflowLaw, ProductOverflowLaw, QuotientOverflowLaw, FractionOverflowLaw}

none_test : (b : Bool) (v : Fraction) → IsNone (cond b (Some v) None) ↔ (b ≡ false)
none_test true v = (λ h. cc, λ h. cc)
none_test false v = (λ h. refl, λ h. refl)

large : (n : ℕ) → is_small n ≡ false → largest < n
large n h = grind (arith, nat_tests)

not_small : (n : ℕ) → largest < n → is_small n ≡ false
not_small n h = grind (arith, nat_tests)

one_false : (a b : Bool) → (a && b) ≡ false → (a ≡ false) ⊎ (b ≡ false)
one_false true b h = inr h
one_false false b h = inl refl

first_false : (a b : Bool) → a ≡ false → (a && b) ≡ false
first_false true b h = cc
first_false false b h = refl

second_false : (a b : Bool) → b ≡ false → (a && b) ≡ false
second_false true b h = h
second_false false b h = refl

-- ---- two numbers
one_of_two : (m n : ℕ) → (is_small m && is_small n) ≡ false → (largest < m) ⊎ (largest < n)
one_of_two m n h = elim (one_false (is_small m) (is_small n) h) [ inl a ↦ inl (large m a) | inr a ↦ inr (large n a) ]

two_of_one : (m n : ℕ) → (largest < m) ⊎ (largest < n) → (is_small m && is_small n) ≡ false
two_of_one m n (inl h) = first_false (is_small m) (is_small n) (not_small m h)
two_of_one m n (inr h) = second_false (is_small m) (is_small n) (not_small n h)

-- ---- four numbers
one_of_four : (k l m n : ℕ) → (is_small k && is_small l && is_small m && is_small n) ≡ false → (largest < k) ⊎ ((largest < l) ⊎ ((largest < m) ⊎ (largest < n)))
one_of_four k l m n h =
    elim (one_false (is_small k && is_small l && is_small m) (is_small n) h) [
      | inl a ↦ elim (one_false (is_small k && is_small l) (is_small m) a) [
        | inl b ↦ elim (one_of_two k l b) [ inl d ↦ inl d | inr d ↦ inr (inl d) ]
        | inr b ↦ inr (inr (inl (large m b)))
      ]
      | inr a ↦ inr (inr (inr (large n a)))
    ]

four_of_one : (k l m n : ℕ) → (largest < k) ⊎ ((largest < l) ⊎ ((largest < m) ⊎ (largest < n))) → (is_small k && is_small l && is_small m && is_small n) ≡ false
four_of_one k l m n (inl h) = first_false _ (is_small n) (first_false _ (is_small m) (first_false (is_small k) (is_small l) (not_small k h)))
four_of_one k l m n (inr (inl h)) = first_false _ (is_small n) (first_false _ (is_small m) (second_false (is_small k) (is_small l) (not_small l h)))
four_of_one k l m n (inr (inr (inl h))) = first_false _ (is_small n) (second_false (is_small k && is_small l) (is_small m) (not_small m h))
four_of_one k l m n (inr (inr (inr h))) = second_false (is_small k && is_small l && is_small m) (is_small n) (not_small n h)

-- ---- the operations
pub sum_overflow_law : SumOverflowLaw
unfolding sum_gcd sum_left sum_right sum_top sum_common sum_bottom
sum_overflow_law x y =
    let p = unsigned_abs (sum_left x y) in let q = unsigned_abs (sum_right x y) in let s = unsigned_abs (sum_top x y) in let d = sum_bottom x y in
    let t = none_test (is_small p && is_small q && is_small s && is_small d) (sum_reduced x y) in
    (λ h. one_of_four p q s d (t.0 h), λ h. t.1 (four_of_one p q s d h))

pub difference_overflow_law : DifferenceOverflowLaw
difference_overflow_law x y = sum_overflow_law x (opposite_of y)

pub product_overflow_law : ProductOverflowLaw
unfolding cross_gcd product_top product_bottom
product_overflow_law x y =
    let n = unsigned_abs (product_top x y) in let d = product_bottom x y in
    let t = none_test (is_small n && is_small d) (product_reduced x y) in
    (λ h. one_of_two n d (t.0 h), λ h. t.1 (two_of_one n d h))

pub quotient_overflow_law : QuotientOverflowLaw
quotient_overflow_law x y = product_overflow_law x (reciprocal_of y)

pub fraction_overflow_law : FractionOverflowLaw
fraction_overflow_law negative num den =
    let n = num / gcd num den in let d = den / gcd num den in
    let t = none_test (is_small n && is_small d) (record { top = signed negative n; bottom = d }) in
    (λ h. one_of_two n d (t.0 h), λ h. t.1 (two_of_one n d h))
