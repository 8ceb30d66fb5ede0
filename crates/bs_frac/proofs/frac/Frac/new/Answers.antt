use Rattle.std.proofs.Common.{◌≡◌, ℕ, ◌/◌, ap, ◌∙◌}
use Rattle.bs_frac.specs.Gcd.{gcd}
use Rattle.bs_frac.proofs.GcdLaws.{gcd-right, gcd-quotients}
use Rattle.bs_frac.proofs.Reduced.{quotient_pos}
use Rattle.bs_frac.proofs.Sums.{reduced_side}
use Rattle.bs_frac.proofs.frac.Frac.new.Goals as goal

pub invariant_of-result : goal.invariant_of-result
invariant_of-result c =
    let n = c.args.num in let d = c.args.den in
    let g = c.gcd_of-common.ensures.value in
    let num : c.in-Some-Some.num ≡ n / gcd n d = c.in-Some-Some.ensures.1 ∙ c.quotient.ensures ∙ ap (λ (i : ℕ). n / i) g in
    let den : c.in-Some-Some.den ≡ d / gcd n d = c.in-Some-Some.ensures'.1 ∙ c.quotient-2.ensures ∙ ap (λ (i : ℕ). d / i) g in (
      rw c.in-Some-Some.ensures.1 c.in-Some-Some.ensures.0,
      rw c.in-Some-Some.ensures'.1 c.in-Some-Some.ensures'.0,
      rw den (quotient_pos d (gcd n d) (gcd-right n d) c.requires),
      rw (num, den) (gcd-quotients n d c.requires),
      c.sign.ensures.zero,
    )

pub returns-clause-reduced : goal.returns-clause-reduced
returns-clause-reduced c =
    let i = invariant_of-result c in
    reduced_side c.sign.result c.in-Some-Some.num c.in-Some-Some.den i.2 i.3
