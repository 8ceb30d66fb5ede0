use Rattle.std.proofs.Common.{◌≡◌, ℕ, ◌<◌, not, ◌∙◌, sym, ap, ap₂, subst}
use mathlib.Core.Bool.{beq}
use Rattle.bs_frac.specs.Fraction.{Fraction, signed, product_of}
use Rattle.bs_frac.specs.Written.{checked}
use Rattle.bs_frac.specs.declared.coef.Coef.{Coef}
use Rattle.bs_frac.specs.Wholes.{ratio, number, ProductStays}
use Rattle.bs_frac.proofs.Ratios.{product_found, product_stays}
use Rattle.bs_frac.proofs.Gathered.{two_factors}
use Rattle.bs_frac.proofs.ratio.Ratio.add_product.Goals as goal

pub returns-clause-number : goal.returns-clause-number
returns-clause-number c = λ yes.
    let p = c.parts-negative.result in let s = c.second.inside in
    let x = c.args.first.now in let y = c.args.second.now in
    let ex : ratio (signed p.0 p.1) p.2 ≡ x = sym c.parts-negative.ensures.value in
    let ey : ratio (signed s.negative s.num) s.den ≡ y = c.second.view_is in
    let found : ratio (signed (not (beq p.0 s.negative)) c.in-Some.num) c.in-Some-product_within.den ≡ product_of x y =
    ap₂ (λ (i j : ℕ). ratio (signed (not (beq p.0 s.negative)) i) j) c.in-Some.ensures.1 c.in-Some-product_within.ensures.1
    ∙ sym (product_found p.0 s.negative p.1 p.2 s.num s.den) ∙ ap₂ product_of ex ey in
    let fits : ProductStays x y = product_stays p.0 s.negative p.1 p.2 s.num s.den x y ex ey c.in-Some.ensures.0 c.in-Some-product_within.ensures.0 in
    let other : 0 < y.bottom = subst (λ (z : Fraction). 0 < z.bottom) ey c.second.invariant.2 in
    c.bring.ensures.number yes
    ∙ ap (λ (v : Coef). checked.sum (number c.args.self.now) v) (ap number found ∙ sym (two_factors p.0 p.1 p.2 x y ex c.parts-negative.ensures.num c.parts-negative.ensures.den c.parts-negative.ensures.reduced other fits))
