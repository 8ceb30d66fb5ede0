use Rattle.std.proofs.Common.{◌≡◌, ℕ, ◌<◌, not, ◌∙◌, sym, ap, ap₂, subst}
use mathlib.Core.Bool.{beq}
use Rattle.bs_frac.specs.Fraction.{Fraction, signed, product_of}
use Rattle.bs_frac.specs.Wholes.{ratio, number, ProductStays}
use Rattle.bs_frac.proofs.Ratios.{product_found, product_stays}
use Rattle.bs_frac.proofs.WholeSums.{product_law}
use Rattle.bs_frac.proofs.ratio.Ratio.multiply_ratio.Goals as goal

pub returns-clause-number : goal.returns-clause-number
returns-clause-number c = λ yes.
    let s = c.self.inside in let p = c.by.inside in
    let x = c.args.self.now in let y = c.args.by.now in
    let ex : ratio (signed s.negative s.num) s.den ≡ x = c.self.view_is in
    let ey : ratio (signed p.negative p.num) p.den ≡ y = c.by.view_is in
    let found : ratio (signed (not (beq s.negative p.negative)) c.in-Some.num) c.in-Some-product_within.den ≡ product_of x y =
    ap₂ (λ (i j : ℕ). ratio (signed (not (beq s.negative p.negative)) i) j) c.in-Some.ensures.1 c.in-Some-product_within.ensures.1
    ∙ sym (product_found s.negative p.negative s.num s.den p.num p.den) ∙ ap₂ product_of ex ey in
    let fits : ProductStays x y = product_stays s.negative p.negative s.num s.den p.num p.den x y ex ey c.in-Some.ensures.0 c.in-Some-product_within.ensures.0 in
    let some : 0 < x.bottom = subst (λ (z : Fraction). 0 < z.bottom) ex c.self.invariant.2 in
    let other : 0 < y.bottom = subst (λ (z : Fraction). 0 < z.bottom) ey c.by.invariant.2 in
    ap number found ∙ sym (product_law x y some other fits)
