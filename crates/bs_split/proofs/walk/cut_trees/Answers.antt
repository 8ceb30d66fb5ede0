use Rattle.std.proofs.Common.{◌∙◌, ◌++◌, ◌∷◌, [], ◌<◌, ℕ, List, ap, sym, arith, drop, length, append_assoc, length-append}
use Rattle.bs_split.specs.Walk.{cut_pairs}
use Rattle.bs_split.proofs.Passes.{cut_more, cut_one}
use Rattle.bs_split.proofs.walk.cut_trees.Goals as goal

pub nodes-preserved-then-kept-node : goal.nodes-preserved-then-kept-node
nodes-preserved-then-kept-node c =
    let s = c.args.code.now in
    let w = c.args.kept.now in
    let i = c.nodes.node in
    let inside : i < length s = omega (arith, c.nodes-test.true, c.order-count.ensures.value) in
    record {
      within = omega arith;
      few = omega (arith, c.nodes.invariant.few);
      cut = ap (λ (cs : List (List (ℕ × ℕ))). c.nodes.forest ++ cs) (sym (cut_more s w i inside (omega (arith, c.requires)) c.if-kept-node.true)) ∙ c.nodes.invariant.cut;
    }

pub nodes-preserved : goal.nodes-preserved
nodes-preserved c =
    let s = c.args.code.now in
    let w = c.args.kept.now in
    let i = c.nodes.node in
    let e = c.subtree_end-node.result in
    let inside : i < length s = omega (arith, c.nodes-test.true, c.order-count.ensures.value) in
    let rest = cut_pairs 0 (drop e s) (drop e w) in
    record {
      within = c.subtree_end-node.ensures.within;
      few = omega (arith, c.nodes.invariant.few, c.subtree_end-node.ensures.later, ap length c.push.ensures, length-append c.nodes.forest (c.subtree.result ∷ []));
      cut = ap (λ (cs : List (List (ℕ × ℕ))). cs ++ rest) c.push.ensures
          ∙ append_assoc c.nodes.forest (c.subtree.result ∷ []) rest
          ∙ ap (λ (x : List (ℕ × ℕ)). c.nodes.forest ++ x ∷ rest) c.subtree.ensures
          ∙ ap (λ (cs : List (List (ℕ × ℕ))). c.nodes.forest ++ cs) (sym (cut_one s w i e inside (omega (arith, c.requires)) c.if-kept-node.false c.subtree_end-node.ensures.value))
          ∙ c.nodes.invariant.cut;
    }
