use Rattle.std.proofs.Common.{◌≡◌, ◌∙◌, ap, ap₂, sym, arith, ◌≤◌, ◌*◌, ◌/◌, ℕ}
use Rattle.bs_tree.specs.Tree.{order}
use Rattle.bs_tree.specs.Code.{tree_of}
use Rattle.bs_tree.specs.Numbers.{symmetry, density, factorial}
use Rattle.bs_tree.specs.declared.TheConstants.{MAX_NODES}
use Rattle.bs_tree.proofs.Bounds.{weight_fits, alpha_pos}
use Rattle.bs_tree.proofs.CodeFacts.{code_within}
use Rattle.bs_tree.proofs.code.Code.alpha.Goals as goal

pub labellings-requires-clause-fits : goal.labellings-requires-clause-fits
labellings-requires-clause-fits c =
    let t = tree_of c.args.self.now in
    let w = code_within c.args.self.now c.order.ensures.code in
    let small : order t ≤ MAX_NODES = omega (arith, w.0, c.order.ensures.value, c.order.ensures.small) in
    rw (c.symmetry.ensures.value, c.density.ensures.value) (weight_fits t small)

pub returns-clause-value : goal.returns-clause-value
returns-clause-value c =
    let t = tree_of c.args.self.now in
    let w = code_within c.args.self.now c.order.ensures.code in
    let total : c.factorial.result ≡ factorial (order t) = c.factorial.ensures ∙ ap factorial (c.order.ensures.value ∙ sym w.0) in
    let product : c.symmetry.result * c.density.result ≡ symmetry t * density t = ap₂ (λ (m n : ℕ). m * n) c.symmetry.ensures.value c.density.ensures.value in
    c.labellings.ensures ∙ ap₂ (λ (m n : ℕ). m / n) total product

pub returns-clause-positive : goal.returns-clause-positive
returns-clause-positive c =
    let value = returns-clause-value c in
    omega (arith, value, alpha_pos (tree_of c.args.self.now))
