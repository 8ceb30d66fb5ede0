use Rattle.std.proofs.Common.{◌≡◌, ℕ, ◌*◌, ◌≤◌, arith, ◌∙◌, ap₂, subst}
use Rattle.std.specs.Prelude.{SomeIff}
use Rattle.bs_frac.specs.Checked.{largest}
use Rattle.bs_frac.proofs.whole_sum.times_within.Goals as goal

pub returns : goal.returns
returns c =
    let a = c.args.num in let b = c.args.other in let m = c.args.times in
    let e : c.in_ok-product_within.field-0 * c.from.result ≡ a * (b * m) = ap₂ (λ (i j : ℕ). i * j) c.in_ok-product_within.ensures.1 c.from.ensures ∙ omega arith in
    subst (λ (i : ℕ). SomeIff c.product_within-2.result (i ≤ largest) i) e c.product_within-2.ensures
