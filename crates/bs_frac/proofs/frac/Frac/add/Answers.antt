use Rattle.std.proofs.Common.{◌≡◌, ℕ, ℤ, ◌*◌, ◌/◌, ◌<◌, ◌≤◌, ◌+ℤ◌, true, false, Some, refl, sym, ◌∙◌, ap, ap₂, subst}
use Rattle.std.specs.Prelude.{unsigned_abs}
use Rattle.std.proofs.Math.Nat.{div-le_self, le_trans}
use Rattle.bs_frac.specs.Fraction.{signed}
use Rattle.bs_frac.specs.Checked.{largest}
use Rattle.bs_frac.proofs.Sums.{no_left, no_right, no_top, no_bottom, sum_found, coprime_found, sum_zero_left, sum_zero_right, zero_over_one, side, reduced_side, quotient_still_pos, unsigned_abs-signed}
use Rattle.bs_frac.proofs.frac.Frac.add.Goals as goal

pub returns-then-other-eq0-clause-value : goal.returns-then-other-eq0-clause-value
unfolding side
returns-then-other-eq0-clause-value c =
    let s = c.self.inside in let o = c.other.inside in
    let e : o.num ≡ 0 = c.if-other-eq0.true in
    rw (← c.self.view_is, ← c.other.view_is, e, zero_over_one o.num o.den e c.other.invariant.3)
    (sum_zero_right s.negative o.negative s.num s.den c.self.invariant.0 c.self.invariant.1)

pub returns-then-self-eq0-clause-value : goal.returns-then-self-eq0-clause-value
unfolding side
returns-then-self-eq0-clause-value c =
    let s = c.self.inside in let o = c.other.inside in
    let e : s.num ≡ 0 = c.if-self-eq0.true in
    rw (← c.self.view_is, ← c.other.view_is, e, zero_over_one s.num s.den e c.self.invariant.3)
    (sum_zero_left s.negative o.negative o.num o.den c.other.invariant.0 c.other.invariant.1)

pub returns-in_default-clause-value : goal.returns-in_default-clause-value
returns-in_default-clause-value c =
    let s = c.self.inside in let o = c.other.inside in let g = c.gcd_of-common.result in
    let h : s.num * (o.den / g) ≤ largest → ⊥ = rw (← c.quotient.ensures) c.in_default.ensures in
    rw (← c.self.view_is, ← c.other.view_is)
    (no_left s.negative s.num s.den o.negative o.num o.den g c.gcd_of-common.ensures.value h)

pub returns-in_default-product_within-clause-value : goal.returns-in_default-product_within-clause-value
returns-in_default-product_within-clause-value c =
    let s = c.self.inside in let o = c.other.inside in let g = c.gcd_of-common.result in
    let h : o.num * (s.den / g) ≤ largest → ⊥ = rw (← c.quotient-scale.ensures) c.in_default-product_within.ensures in
    rw (← c.self.view_is, ← c.other.view_is)
    (no_right s.negative s.num s.den o.negative o.num o.den g c.gcd_of-common.ensures.value h)

pub returns-in_default-signed_sum-clause-value : goal.returns-in_default-signed_sum-clause-value
returns-in_default-signed_sum-clause-value c =
    let s = c.self.inside in let o = c.other.inside in let g = c.gcd_of-common.result in
    let left : c.in-Some.left ≡ s.num * (o.den / g) = c.in-Some.ensures.1 ∙ ap (λ (i : ℕ). s.num * i) c.quotient.ensures in
    let right : c.in-Some-product_within.right ≡ o.num * (s.den / g) = c.in-Some-product_within.ensures.1 ∙ ap (λ (i : ℕ). o.num * i) c.quotient-scale.ensures in
    let sum : signed s.negative c.in-Some.left +ℤ signed o.negative c.in-Some-product_within.right ≡ signed s.negative (s.num * (o.den / g)) +ℤ signed o.negative (o.num * (s.den / g)) =
    ap₂ (λ (i j : ℕ). signed s.negative i +ℤ signed o.negative j) left right in
    rw (← c.self.view_is, ← c.other.view_is)
    (no_top s.negative s.num s.den o.negative o.num o.den g c.gcd_of-common.ensures.value (λ h. let e : false ≡ true = c.in_default-signed_sum.ensures.fits.1 (subst (λ (z : ℤ). unsigned_abs z ≤ largest) (sym sum) h) in cc))

pub returns-in_default-product_within-2-clause-value : goal.returns-in_default-product_within-2-clause-value
returns-in_default-product_within-2-clause-value c =
    let s = c.self.inside in let o = c.other.inside in let g = c.gcd_of-common.result in
    let left : c.in-Some.left ≡ s.num * (o.den / g) = c.in-Some.ensures.1 ∙ ap (λ (i : ℕ). s.num * i) c.quotient.ensures in
    let right : c.in-Some-product_within.right ≡ o.num * (s.den / g) = c.in-Some-product_within.ensures.1 ∙ ap (λ (i : ℕ). o.num * i) c.quotient-scale.ensures in
    let sum : signed s.negative c.in-Some.left +ℤ signed o.negative c.in-Some-product_within.right ≡ signed s.negative (s.num * (o.den / g)) +ℤ signed o.negative (o.num * (s.den / g)) =
    ap₂ (λ (i j : ℕ). signed s.negative i +ℤ signed o.negative j) left right in
    let t = c.in-Some-signed_sum.total in let n = c.in-Some-signed_sum.negative in
    let et : signed n t ≡ signed s.negative (s.num * (o.den / g)) +ℤ signed o.negative (o.num * (s.den / g)) = c.in-Some-signed_sum.ensures.sum ∙ sum in
    let f = c.gcd_of-factor.result in
    let h : s.den / g * (o.den / f) ≤ largest → ⊥ = rw (← c.quotient-scale.ensures, ← c.quotient-2.ensures) c.in_default-product_within-2.ensures in
    rw (← c.self.view_is, ← c.other.view_is)
    (no_bottom s.negative s.num s.den o.negative o.num o.den g c.gcd_of-common.ensures.value n t et f c.gcd_of-factor.ensures.value h)

pub invariant_of-result-2 : goal.invariant_of-result-2
invariant_of-result-2 c =
    let s = c.self.inside in let o = c.other.inside in let g = c.gcd_of-common.result in
    let left : c.in-Some.left ≡ s.num * (o.den / g) = c.in-Some.ensures.1 ∙ ap (λ (i : ℕ). s.num * i) c.quotient.ensures in
    let right : c.in-Some-product_within.right ≡ o.num * (s.den / g) = c.in-Some-product_within.ensures.1 ∙ ap (λ (i : ℕ). o.num * i) c.quotient-scale.ensures in
    let sum : signed s.negative c.in-Some.left +ℤ signed o.negative c.in-Some-product_within.right ≡ signed s.negative (s.num * (o.den / g)) +ℤ signed o.negative (o.num * (s.den / g)) =
    ap₂ (λ (i j : ℕ). signed s.negative i +ℤ signed o.negative j) left right in
    let t = c.in-Some-signed_sum.total in let n = c.in-Some-signed_sum.negative in
    let et : signed n t ≡ signed s.negative (s.num * (o.den / g)) +ℤ signed o.negative (o.num * (s.den / g)) = c.in-Some-signed_sum.ensures.sum ∙ sum in
    let f = c.gcd_of-factor.result in
    let den : c.in-Some-product_within-2.den ≡ s.den / g * (o.den / f) = c.in-Some-product_within-2.ensures.1 ∙ ap₂ (λ (i j : ℕ). i * j) c.quotient-scale.ensures c.quotient-2.ensures in
    let fits : t ≤ largest = subst (λ (i : ℕ). i ≤ largest) (ap unsigned_abs (sym c.in-Some-signed_sum.ensures.sum) ∙ unsigned_abs-signed n t) (c.in-Some-signed_sum.ensures.fits.0 refl) in
    let found = coprime_found s.negative s.num s.den o.negative o.num o.den g c.gcd_of-common.ensures.value n t et f c.gcd_of-factor.ensures.value
    (reduced_side s.negative s.num s.den c.self.invariant.2 c.self.invariant.3) (reduced_side o.negative o.num o.den c.other.invariant.2 c.other.invariant.3) in
    let some : 0 < g = c.gcd_of-common.ensures.positive c.other.invariant.2 in (
      rw c.quotient-3.ensures (le_trans (div-le_self t f) fits),
      rw c.in-Some-product_within-2.ensures.1 c.in-Some-product_within-2.ensures.0,
      rw den found.0,
      rw (c.quotient-3.ensures, den) found.1,
      λ e. rw (c.quotient-3.ensures, c.gcd_of-factor.ensures.value) (quotient_still_pos t g some (c.in-Some-signed_sum.ensures.zero e)),
    )

pub returns-clause-value : goal.returns-clause-value
unfolding side
returns-clause-value c =
    let s = c.self.inside in let o = c.other.inside in let g = c.gcd_of-common.result in
    let left : c.in-Some.left ≡ s.num * (o.den / g) = c.in-Some.ensures.1 ∙ ap (λ (i : ℕ). s.num * i) c.quotient.ensures in
    let right : c.in-Some-product_within.right ≡ o.num * (s.den / g) = c.in-Some-product_within.ensures.1 ∙ ap (λ (i : ℕ). o.num * i) c.quotient-scale.ensures in
    let sum : signed s.negative c.in-Some.left +ℤ signed o.negative c.in-Some-product_within.right ≡ signed s.negative (s.num * (o.den / g)) +ℤ signed o.negative (o.num * (s.den / g)) =
    ap₂ (λ (i j : ℕ). signed s.negative i +ℤ signed o.negative j) left right in
    let t = c.in-Some-signed_sum.total in let n = c.in-Some-signed_sum.negative in
    let et : signed n t ≡ signed s.negative (s.num * (o.den / g)) +ℤ signed o.negative (o.num * (s.den / g)) = c.in-Some-signed_sum.ensures.sum ∙ sum in
    let f = c.gcd_of-factor.result in
    let den : c.in-Some-product_within-2.den ≡ s.den / g * (o.den / f) = c.in-Some-product_within-2.ensures.1 ∙ ap₂ (λ (i j : ℕ). i * j) c.quotient-scale.ensures c.quotient-2.ensures in
    let fits : t ≤ largest = subst (λ (i : ℕ). i ≤ largest) (ap unsigned_abs (sym c.in-Some-signed_sum.ensures.sum) ∙ unsigned_abs-signed n t) (c.in-Some-signed_sum.ensures.fits.0 refl) in
    let hl : s.num * (o.den / g) ≤ largest = rw (← c.quotient.ensures) c.in-Some.ensures.0 in
    let hr : o.num * (s.den / g) ≤ largest = rw (← c.quotient-scale.ensures) c.in-Some-product_within.ensures.0 in
    let hd : s.den / g * (o.den / f) ≤ largest = rw (← c.quotient-scale.ensures, ← c.quotient-2.ensures) c.in-Some-product_within-2.ensures.0 in
    rw (← c.self.view_is, ← c.other.view_is)
    (ap₂ (λ (i j : ℕ). Some (side n i j)) c.quotient-3.ensures den
    ∙ sum_found s.negative s.num s.den o.negative o.num o.den g c.gcd_of-common.ensures.value n t et f c.gcd_of-factor.ensures.value hl hr fits hd)

pub returns-clause-reduced : goal.returns-clause-reduced
returns-clause-reduced c =
    let i = invariant_of-result-2 c in
    reduced_side c.in-Some-signed_sum.negative c.quotient-3.result c.in-Some-product_within-2.den i.2 i.3
