use Rattle.std.proofs.Common.{◌≡◌, ◌+◌, ◌-◌, ◌*◌, ◌^◌, arith, sym, ◌∙◌, ap}
use Rattle.std.specs.Int.{w64, trailing_zeros}
use Rattle.bs_frac.specs.Gcd.{gcd}
use Rattle.bs_frac.proofs.GcdLaws.{gcd-same}
use Rattle.bs_frac.proofs.OddPart.{binary_step}
use Rattle.bs_frac.proofs.gcd.gcd_odd.Goals as goal

pub steps-preserved : goal.steps-preserved
steps-preserved c =
    let i = c.steps.invariant in
    let e : c.odd_part-x.result * 2 ^ trailing_zeros w64 c.abs_diff-apart.result ≡ (c.steps.x - c.steps.y) + (c.steps.y - c.steps.x) = c.odd_part-x.ensures.twos ∙ c.abs_diff-apart.ensures in
    record {
      same = ap (gcd c.odd_part-x.result) c.min-y.ensures ∙ binary_step c.steps.x c.steps.y c.odd_part-x.result (trailing_zeros w64 c.abs_diff-apart.result) i.x_odd i.y_odd e ∙ i.same;
      x_odd = c.odd_part-x.ensures.odd;
      y_odd = omega (arith, c.min-y.ensures, i.x_odd, i.y_odd);
    }

pub returns : goal.returns
returns c = sym (gcd-same c.steps.x) ∙ ap (gcd c.steps.x) (let e : c.steps.x ≡ c.steps.y = c.steps-test.false in e) ∙ c.steps.invariant.same
