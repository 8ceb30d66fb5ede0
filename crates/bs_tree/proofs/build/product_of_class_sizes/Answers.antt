use Rattle.std.proofs.Common.{◌≡◌, ◌∙◌, ◌+◌, ◌*◌, ◌≤◌, ℕ, ap, arith, drop}
use Rattle.bs_tree.specs.Subtrees.{later_same, class_sizes}
use Rattle.bs_tree.proofs.Classes.{classes_step}
use Rattle.bs_tree.proofs.Children.{rest_of_all}
use Rattle.bs_tree.proofs.build.product_of_class_sizes.Goals as goal

pub overflow_mul-product : goal.overflow_mul-product
overflow_mul-product c =
    let ps = c.args.pairs.now in
    let e : c.later_same.result ≡ later_same (drop c.nodes.node ps) = c.later_same.ensures.value ∙ ap later_same (rest_of_all ps c.nodes.node) in
    let s = (classes_step c.nodes.product c.nodes.node (class_sizes ps) ps c.nodes-test.true c.nodes.invariant).0 in
    let k : c.nodes.product * (c.later_same.result + 1) ≤ class_sizes ps = rw e s in
    omega (arith, k, c.requires)

pub nodes-preserved : goal.nodes-preserved
nodes-preserved c =
    let ps = c.args.pairs.now in
    let e : c.later_same.result ≡ later_same (drop c.nodes.node ps) = c.later_same.ensures.value ∙ ap later_same (rest_of_all ps c.nodes.node) in
    let s = (classes_step c.nodes.product c.nodes.node (class_sizes ps) ps c.nodes-test.true c.nodes.invariant).1 in
    ap (λ (n : ℕ). (c.nodes.product * (n + 1)) * class_sizes (drop (c.nodes.node + 1) ps)) e ∙ s
