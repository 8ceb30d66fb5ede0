use Rattle.std.proofs.Common.{◌≡◌, ◌∙◌, ◌++◌, ◌≤◌, ◌<◌, ℕ, List, ap, sym, arith, drop, length, length-drop}
use Rattle.bs_tree.specs.Subtrees.{first_count}
use Rattle.bs_tree.proofs.Children.{rest_of_all}
use Rattle.bs_tree.proofs.Pruned.{kept_cut}
use Rattle.bs_tree.proofs.build.kept_pairs.Goals as goal

pub nodes-preserved : goal.nodes-preserved
nodes-preserved c =
    let ps = c.args.pairs.now in
    let w = c.args.kept.now in
    let i = c.nodes.node in
    let n = c.first_count-node.result in
    let whole = rest_of_all ps i in
    let some : i < length ps = c.nodes-test.true in
    let count : n ≡ first_count (drop i ps) = c.first_count-node.ensures.value ∙ ap first_count whole in
    let inside : n ≤ length (drop i ps) = omega (arith, c.first_count-node.ensures.within, ap length whole) in
    record {
      within = omega (arith, inside, length-drop i ps);
      few = omega (arith, c.nodes.invariant.few);
      kept = ap (λ (qs : List (ℕ × ℕ)). c.nodes.rest ++ qs) (sym (kept_cut ps w i n some (omega (arith, c.requires.letters)) c.if-kept-node.false count)) ∙ c.nodes.invariant.kept;
    }
