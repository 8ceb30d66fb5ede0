use Rattle.std.proofs.Common.{◌≡◌, ◌+◌, ◌*◌, ◌^◌, ◌<◌, ◌≤◌, ℕ, drop, arith, sym, ap, subst}
use Rattle.bs_tree.specs.Code.{child_codes}
use Rattle.bs_eval.specs.Spread.{spread, spreads}
use Rattle.bs_eval.proofs.Spreads.{at_first, spread-pos, code_small, at_next, fits_next, at_end}
use Rattle.bs_eval.proofs.direct.+arities.Goals as goal

pub children-init : goal.children-init
children-init t c = at_first c.args.code.now (c.arity.result + 1) (ap (λ (n : ℕ). n + 1) c.arity.ensures.value)

pub overflow_mul-product : goal.overflow_mul-product
overflow_mul-product t c =
    let code = c.args.code.now in
    let a = fits_next (child_codes code) c.children.place c.child.result c.children.product (spread code) c.child.ensures.value c.children.invariant in
    let b = code_small code c.order-order.ensures.code in
    let d : c.children.product * c.arities-product.result ≤ 2 ^ 16 = subst (λ (n : ℕ). c.children.product * n ≤ 2 ^ 16) (sym c.arities-product.ensures.value) (omega (arith, a, b)) in
    omega (arith, d)

pub children-preserved : goal.children-preserved
children-preserved t c =
    let code = c.args.code.now in
    subst (λ (n : ℕ). c.children.product * n * spreads (drop (c.children.place + 1) (child_codes code)) ≡ spread code) (sym c.arities-product.ensures.value)
    (at_next (child_codes code) c.children.place c.child.result c.children.product (spread code) c.child.ensures.value c.children.invariant)

pub returns-clause-positive : goal.returns-clause-positive
returns-clause-positive t c =
    let code = c.args.code.now in
    let e = at_end (child_codes code) c.children.place c.children.product (spread code) (omega (arith, c.children-test.false, c.arity-place-end.ensures.value)) c.children.invariant in
    subst (λ (n : ℕ). 0 < n) (sym e) (spread-pos code)
