use Rattle.std.proofs.Common.{ap, sym, ◌∙◌}
use Rattle.bs_frac.specs.Fraction.{Fraction}
use Rattle.bs_frac.proofs.GcdLaws.{gcd-swap}
use Rattle.bs_frac.proofs.Sums.{nonzero_magnitude}
use Rattle.bs_frac.proofs.frac.Frac.reciprocal.Goals as goal

pub invariant_of-result : goal.invariant_of-result
invariant_of-result c =
    let i = c.self.invariant in
    let s = c.self.inside in
    (i.1, i.0, nonzero_magnitude s.negative s.num (λ e. c.requires (sym (ap (λ (x : Fraction). x.top) c.self.view_is) ∙ e)), gcd-swap s.den s.num ∙ i.3, λ e. i.2)
