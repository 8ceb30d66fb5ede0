use Rattle.std.proofs.Common.{◌≡◌, ◌+◌, ◌-◌, ◌*◌, ◌^◌, arith, sym, ◌∙◌, ap}
use Rattle.std.specs.Int.{w128, trailing_zeros}
use Rattle.bs_frac.specs.Gcd.{gcd}
use Rattle.bs_frac.proofs.GcdLaws.{gcd-same}
use Rattle.bs_frac.proofs.OddPart.{binary_step}
use Rattle.bs_frac.proofs.gcd.gcd_odd_large.Goals as goal
use Rattle.bs_frac.proofs.gcd.gcd_odd_large.Goals.{then-steps-test+else-y-ge-SMALL, else-steps-test}

pub steps-preserved : goal.steps-preserved
steps-preserved c =
    let i = c.steps.invariant in
    let e : c.odd_part_large-x.result * 2 ^ trailing_zeros w128 c.abs_diff-apart.result ≡ (c.steps.x - c.steps.y) + (c.steps.y - c.steps.x) = c.odd_part_large-x.ensures.twos ∙ c.abs_diff-apart.ensures in
    record {
      same = ap (gcd c.odd_part_large-x.result) c.min-y.ensures ∙ binary_step c.steps.x c.steps.y c.odd_part_large-x.result (trailing_zeros w128 c.abs_diff-apart.result) i.x_odd i.y_odd e ∙ i.same;
      x_odd = c.odd_part_large-x.ensures.odd;
      y_odd = omega (arith, c.min-y.ensures, i.x_odd, i.y_odd);
    }

pub returns-then-x-y : goal.returns-then-x-y
returns-then-x-y c = sym (gcd-same c.steps.x) ∙ ap (gcd c.steps.x) (let e : c.steps.x ≡ c.steps.y = c.if-x-y.true in e) ∙ c.steps.invariant.same
