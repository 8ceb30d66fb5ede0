use mathlib.Core.Bool.{beq}
use Rattle.std.proofs.Common.{◌≡◌, ℕ, ◌+◌, ◌*◌, ◌≤◌, ◌<◌, true, false, not, ◌++◌, ◌+ℤ◌, arith, refl, sym, ◌∙◌, ap, subst, mul-pos}
use Rattle.std.specs.Prelude.{unsigned_abs, replicate}
use Rattle.std.proofs.Math.Nat.{le_trans}
use Rattle.bs_frac.specs.Gcd.{gcd}
use Rattle.bs_frac.specs.Fraction.{signed}
use Rattle.bs_frac.specs.Checked.{largest}
use Rattle.bs_frac.specs.Gathered.{Total, Gathers, term_of}
use Rattle.bs_frac.proofs.GcdLaws.{gcd-right}
use Rattle.bs_frac.proofs.Reduced.{quotient_pos}
use Rattle.bs_frac.proofs.Sums.{unsigned_abs-signed}
use Rattle.bs_frac.proofs.Ratios.{refused}
use Rattle.bs_frac.proofs.Gathered.{sum_bound, total_found, gathers_more}
use Rattle.bs_frac.proofs.whole_sum.WholeSum.add.Goals as goal

pub returns-in_default-signed_sum-clause-fits : goal.returns-in_default-signed_sum-clause-fits
returns-in_default-signed_sum-clause-fits c =
    let s = c.self.inside in let k = c.scales-scale.result.0 in let by = c.in-Some-times_within.by in
    let t = not (beq c.top-minus.result.0 c.args.negative) in
    let before : c.in-Some-product_within.before ≡ s.magnitude * k = c.in-Some-product_within.ensures.1 in
    let small : c.in-Some-product_within.before + by ≤ largest = c.in-Some-within.ensures.0 in
    let bound : unsigned_abs (signed s.negative (s.num * k) +ℤ signed t by) ≤ s.magnitude * k + by = sum_bound s.negative t s.num by s.magnitude k c.self.invariant.0 in
    let f : false ≡ true = c.in_default-signed_sum.ensures.fits.1 (le_trans bound (omega arith)) in
    refused (λ h. cc)

pub invariant_of-self : goal.invariant_of-self
invariant_of-self c =
    let s = c.self.inside in let k = c.scales-scale.result.0 in let by = c.in-Some-times_within.by in
    let t = not (beq c.top-minus.result.0 c.args.negative) in
    let n = c.in-Some-signed_sum.sign in let total = c.in-Some-signed_sum.total in
    let before : c.in-Some-product_within.before ≡ s.magnitude * k = c.in-Some-product_within.ensures.1 in
    let magnitude : c.in-Some-within.magnitude ≡ c.in-Some-product_within.before + by = c.in-Some-within.ensures.1 in
    let small : c.in-Some-product_within.before + by ≤ largest = c.in-Some-within.ensures.0 in
    let bound : unsigned_abs (signed s.negative (s.num * k) +ℤ signed t by) ≤ s.magnitude * k + by = sum_bound s.negative t s.num by s.magnitude k c.self.invariant.0 in
    let found : unsigned_abs (signed s.negative (s.num * k) +ℤ signed t by) ≡ total = ap unsigned_abs (sym c.in-Some-signed_sum.ensures.sum) ∙ unsigned_abs-signed n total in
    let some : 0 < k = rw c.scales-scale.ensures.first (quotient_pos c.den.result (gcd s.den c.den.result) (gcd-right s.den c.den.result) c.den.ensures.some) in (
      omega arith,
      omega arith,
      rw c.in-Some.ensures.1 c.in-Some.ensures.0,
      rw c.in-Some.ensures.1 (mul-pos c.self.invariant.3 some),
    )

pub returns-clause-taken : goal.returns-clause-taken
returns-clause-taken c = λ yes.
    let s = c.self.inside in let k = c.scales-scale.result in let e = c.scales-scale.ensures in
    rw (← c.self.view_is)
    (total_found s.negative s.num s.magnitude s.den c.args.product.now c.top-minus.result.0 c.args.negative c.top-minus.result.1 c.den.result k.0 k.1 c.args.times
    c.top-minus.ensures c.den.ensures.value e.first e.second
    c.in-Some-signed_sum.sign c.in-Some-signed_sum.total c.in-Some-within.magnitude c.in-Some.den c.in-Some-product_within.before c.in-Some-times_within.by
    c.in-Some.ensures.1 c.in-Some-product_within.ensures.1 c.in-Some-times_within.ensures.1 c.in-Some-within.ensures.1 c.in-Some-signed_sum.ensures.sum)

pub returns-clause-gathers : goal.returns-clause-gathers
returns-clause-gathers c = λ z ts vs h f yes.
    let w = c.args.self.now in let x = c.args.product.now in
    let some : 0 < w.over = subst (λ (v : Total). 0 < v.over) c.self.view_is c.self.invariant.3 in
    let bottom : 0 < x.bottom = subst (λ (i : ℕ). 0 < i) c.den.ensures.value c.den.ensures.some in
    subst (λ (v : Total). Gathers z v (ts ++ replicate c.args.times (term_of c.args.negative vs))) (sym (returns-clause-taken c refl))
    (gathers_more z w ts h x vs f some bottom c.den.ensures.small c.args.negative c.args.times)
