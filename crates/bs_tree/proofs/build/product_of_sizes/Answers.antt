use Rattle.std.proofs.Common.{◌≡◌, ◌∙◌, ◌+◌, ◌*◌, ◌≤◌, ℕ, ap, arith, drop}
use Rattle.bs_tree.specs.Subtrees.{first_count, sizes}
use Rattle.bs_tree.proofs.Children.{sizes_step, rest_of_all}
use Rattle.bs_tree.proofs.build.product_of_sizes.Goals as goal

pub overflow_mul-product : goal.overflow_mul-product
overflow_mul-product c =
    let ps = c.args.pairs.now in
    let e : c.first_count.result ≡ first_count (drop c.nodes.node ps) = c.first_count.ensures.value ∙ ap first_count (rest_of_all ps c.nodes.node) in
    let s = (sizes_step c.nodes.product c.nodes.node (sizes ps) ps c.nodes-test.true c.nodes.invariant).0 in
    let k : c.nodes.product * c.first_count.result ≤ sizes ps = rw e s in
    omega (arith, k, c.requires)

pub nodes-preserved : goal.nodes-preserved
nodes-preserved c =
    let ps = c.args.pairs.now in
    let e : c.first_count.result ≡ first_count (drop c.nodes.node ps) = c.first_count.ensures.value ∙ ap first_count (rest_of_all ps c.nodes.node) in
    let s = (sizes_step c.nodes.product c.nodes.node (sizes ps) ps c.nodes-test.true c.nodes.invariant).1 in
    ap (λ (n : ℕ). (c.nodes.product * n) * sizes (drop (c.nodes.node + 1) ps)) e ∙ s
