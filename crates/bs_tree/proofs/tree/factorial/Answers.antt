use Rattle.std.proofs.Common.{◌≡◌, ◌∙◌, ℕ, suc, sym, ◌+◌, ◌*◌, ◌≤◌, ap, arith}
use Rattle.bs_tree.specs.Numbers.{factorial}
use Rattle.bs_tree.proofs.Bounds.{factorial_fits}
use Rattle.bs_tree.proofs.tree.factorial.Goals as goal
use Rattle.bs_tree.specs.declared.TheConstants.{MAX_NODES}

next : (product k : ℕ) → product ≡ factorial k → product * (k + 1) ≡ factorial (suc k)
next product k e = ap (λ (n : ℕ). n * (k + 1)) e ∙ omega arith

pub overflow_mul-product : goal.overflow_mul-product
overflow_mul-product c =
    let small : suc c.factors.k ≤ MAX_NODES = omega arith in
    omega (arith, next c.factors.product c.factors.k c.factors.invariant, factorial_fits (suc c.factors.k) small)

pub factors-preserved : goal.factors-preserved
factors-preserved c =
    let e : c.factors.k + 1 ≡ suc c.factors.k = omega arith in
    next c.factors.product c.factors.k c.factors.invariant ∙ ap factorial (sym e)
