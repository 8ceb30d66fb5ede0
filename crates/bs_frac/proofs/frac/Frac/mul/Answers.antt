use Rattle.std.proofs.Common.{◌≡◌, ℕ, ◌*◌, ◌/◌, ◌<◌, ◌≤◌, Some, not, arith, sym, ◌∙◌, ap₂, mul-pos}
use mathlib.Core.Bool.{beq}
use Rattle.bs_frac.specs.Checked.{largest}
use Rattle.bs_frac.specs.Gcd.{gcd}
use Rattle.bs_frac.proofs.Sums.{no_product, no_product_bottom, product_found, product_zero_left, product_zero_right, product_one_left, zero_over_one, side, reduced_side}
use Rattle.bs_frac.proofs.Reduced.{product_coprime, quotient_pos}
use Rattle.bs_frac.proofs.GcdLaws.{gcd-left, gcd-right}
use Rattle.bs_frac.proofs.frac.Frac.mul.Goals as goal
use Rattle.bs_frac.proofs.frac.Frac.mul.Goals.{then-self-eq0-via-then-self-eq0, then-self-eq0-via-else-self-eq0+then-other-eq0}

pub returns-then-self-eq0-clause-value : goal.returns-then-self-eq0-clause-value
unfolding side
returns-then-self-eq0-clause-value c =
    let s = c.self.inside in let o = c.other.inside in
    rw (← c.self.view_is, ← c.other.view_is, c.whole.ensures)
    (elim c.then-self-eq0.branch [
      | then-self-eq0-via-then-self-eq0 w ↦
          let e : s.num ≡ 0 = w.if-self-eq0.true in
          rw (e, zero_over_one s.num s.den e c.self.invariant.3) (product_zero_left s.negative o.negative o.num o.den c.other.invariant.2)
      | then-self-eq0-via-else-self-eq0+then-other-eq0 w ↦
          let e : o.num ≡ 0 = w.if-other-eq0.true in
          rw (e, zero_over_one o.num o.den e c.other.invariant.3) (product_zero_right s.negative o.negative s.num s.den c.self.invariant.2)
    ])

pub returns-then-is_one-clause-value : goal.returns-then-is_one-clause-value
unfolding side
returns-then-is_one-clause-value c =
    let o = c.other.inside in
    rw (c.is_one.ensures c.if-is_one.true, ← c.other.view_is) (sym (product_one_left o.negative o.num o.den c.other.invariant.0 c.other.invariant.1))

pub returns-in_default-clause-value : goal.returns-in_default-clause-value
returns-in_default-clause-value c =
    let s = c.self.inside in let o = c.other.inside in
    let h : s.num / c.gcd_of-left.result * (o.num / c.gcd_of-right.result) ≤ largest → ⊥ = c.in_default.ensures in
    rw (← c.self.view_is, ← c.other.view_is)
    (no_product s.negative s.num s.den o.negative o.num o.den c.gcd_of-left.result c.gcd_of-right.result c.gcd_of-left.ensures.value c.gcd_of-right.ensures.value h)

pub returns-in_default-quotients_within-clause-value : goal.returns-in_default-quotients_within-clause-value
returns-in_default-quotients_within-clause-value c =
    let s = c.self.inside in let o = c.other.inside in
    let h : s.den / c.gcd_of-right.result * (o.den / c.gcd_of-left.result) ≤ largest → ⊥ = c.in_default-quotients_within.ensures in
    rw (← c.self.view_is, ← c.other.view_is)
    (no_product_bottom s.negative s.num s.den o.negative o.num o.den c.gcd_of-left.result c.gcd_of-right.result c.gcd_of-left.ensures.value c.gcd_of-right.ensures.value h)

pub invariant_of-result-2 : goal.invariant_of-result-2
invariant_of-result-2 c =
    let s = c.self.inside in let o = c.other.inside in
    let g = c.gcd_of-left.result in let h = c.gcd_of-right.result in
    let en : c.in-Some.num ≡ s.num / g * (o.num / h) = c.in-Some.ensures.1 in
    let ed : c.in-Some-quotients_within.den ≡ s.den / h * (o.den / g) = c.in-Some-quotients_within.ensures.1 in
    let r : gcd (s.num / gcd s.num o.den * (o.num / gcd o.num s.den)) (s.den / gcd o.num s.den * (o.den / gcd s.num o.den)) ≡ 1 =
    product_coprime s.num s.den o.num o.den c.self.invariant.2 c.other.invariant.2 c.self.invariant.3 c.other.invariant.3 in
    let some_s : 0 < s.num = omega (arith, c.if-self-eq0.false) in
    let some_o : 0 < o.num = omega (arith, c.if-other-eq0.false) in
    let num : 0 < s.num / g * (o.num / h) = rw (c.gcd_of-left.ensures.value, c.gcd_of-right.ensures.value)
    (mul-pos (quotient_pos s.num (gcd s.num o.den) (gcd-left s.num o.den) some_s) (quotient_pos o.num (gcd o.num s.den) (gcd-left o.num s.den) some_o)) in
    let den : 0 < s.den / h * (o.den / g) = rw (c.gcd_of-left.ensures.value, c.gcd_of-right.ensures.value)
    (mul-pos (quotient_pos s.den (gcd o.num s.den) (gcd-right o.num s.den) c.self.invariant.2) (quotient_pos o.den (gcd s.num o.den) (gcd-right s.num o.den) c.other.invariant.2)) in
    (rw c.in-Some.ensures.1 c.in-Some.ensures.0, rw c.in-Some-quotients_within.ensures.1 c.in-Some-quotients_within.ensures.0, rw ed den, rw (en, ed, c.gcd_of-left.ensures.value, c.gcd_of-right.ensures.value) r, λ e. rw en num)

pub returns-clause-value : goal.returns-clause-value
unfolding side
returns-clause-value c =
    let s = c.self.inside in let o = c.other.inside in
    let g = c.gcd_of-left.result in let h = c.gcd_of-right.result in
    let en : c.in-Some.num ≡ s.num / g * (o.num / h) = c.in-Some.ensures.1 in
    let ed : c.in-Some-quotients_within.den ≡ s.den / h * (o.den / g) = c.in-Some-quotients_within.ensures.1 in
    let hn : s.num / g * (o.num / h) ≤ largest = c.in-Some.ensures.0 in
    let hd : s.den / h * (o.den / g) ≤ largest = c.in-Some-quotients_within.ensures.0 in
    rw (← c.self.view_is, ← c.other.view_is)
    (ap₂ (λ (i j : ℕ). Some (side (not (beq s.negative o.negative)) i j)) en ed ∙ product_found s.negative s.num s.den o.negative o.num o.den g h c.gcd_of-left.ensures.value c.gcd_of-right.ensures.value hn hd)

pub returns-clause-reduced : goal.returns-clause-reduced
returns-clause-reduced c =
    let i = invariant_of-result-2 c in
    reduced_side (not (beq c.self.inside.negative c.other.inside.negative)) c.in-Some.num c.in-Some-quotients_within.den i.2 i.3
