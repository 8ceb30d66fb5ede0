use Rattle.std.proofs.Common.{◌≡◌, ◌∙◌, sym, ap, arith, ◌+◌, ◌*◌, ◌<◌, ◌≤◌, ℕ, List, drop, get_or, length}
use Rattle.bs_tree.specs.Tree.{forest, Tree, order}
use Rattle.bs_tree.specs.Numbers.{density, density_of}
use Rattle.bs_tree.proofs.Bounds.{density_more, left_le, small_numbers, density_pos, tree_density_pos, factor_pos}
use Rattle.bs_tree.proofs.tree.Tree.+density.Goals as goal
use Rattle.bs_tree.specs.declared.TheConstants.{MAX_NODES}

step : (p i : ℕ) (xs : List Tree) (d t : Tree) (r : ℕ) → i < length xs → r ≡ density d → d ≡ get_or xs i d → order t ≤ MAX_NODES
    → p * density_of (forest (drop i xs)) ≡ density t → p * r < 18446744073709551616
step p i xs d t r h e k small inv =
    let rest = density_of (forest (drop (i + 1) xs)) in
    let e1 : density_of (forest (drop i xs)) ≡ r * rest = density_more xs i d h ∙ ap (λ (n : ℕ). n * rest) (ap density (sym k) ∙ sym e) in
    let le : p * r ≤ density t = left_le p r rest (density t) (density_pos (forest (drop (i + 1) xs))) (ap (λ (n : ℕ). p * n) (sym e1) ∙ inv) in
    omega (arith, (small_numbers t small).1)

pub overflow_mul-product : goal.overflow_mul-product
overflow_mul-product t c =
    let small : order c.args.self.now ≤ MAX_NODES = omega (arith, ap order c.self.view_is) in
    let h = step c.children.product c.children.child-index c.deref-child-items.result.now c.child-item.result c.args.self.now c.density-product.result c.children-test.true c.density-product.ensures.value c.child-item.is small c.children.invariant in
    omega arith

pub returns-clause-positive : goal.returns-clause-positive
returns-clause-positive t c =
    factor_pos c.children.product (density_of (forest (drop c.children.child-index c.deref-child-items.result.now))) (density c.args.self.now) (tree_density_pos c.args.self.now) c.children.invariant
