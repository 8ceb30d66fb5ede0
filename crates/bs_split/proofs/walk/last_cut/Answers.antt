use Rattle.std.proofs.Common.{◌∙◌, ◌<◌, sym, arith, length}
use Rattle.bs_split.proofs.Passes.{last_more, last_one}
use Rattle.bs_split.proofs.Items.{last_of_code, last_within}
use Rattle.bs_split.proofs.walk.last_cut.Goals as goal

pub nodes-preserved-then-kept-node : goal.nodes-preserved-then-kept-node
nodes-preserved-then-kept-node c =
    let s = c.args.code.now in
    let inside : c.nodes.node < length s = omega (arith, c.nodes-test.true, c.order-count.ensures.value) in
    record {
      within = omega arith;
      found = sym (last_more s c.args.kept.now c.nodes.node c.nodes.last inside (omega (arith, c.requires)) c.if-kept-node.true) ∙ c.nodes.invariant.found;
    }

pub nodes-preserved : goal.nodes-preserved
nodes-preserved c =
    let s = c.args.code.now in
    let inside : c.nodes.node < length s = omega (arith, c.nodes-test.true, c.order-count.ensures.value) in
    record {
      within = c.subtree_end-node.ensures.within;
      found = sym (last_one s c.args.kept.now c.nodes.node c.subtree_end-node.result c.nodes.last inside (omega (arith, c.requires)) c.if-kept-node.false c.subtree_end-node.ensures.value) ∙ c.nodes.invariant.found;
    }

pub returns-clause-value : goal.returns-clause-value
returns-clause-value c =
    last_of_code c.args.code.now c.args.kept.now c.nodes.node c.nodes.last c.order-count.ensures.code c.requires (omega (arith, c.nodes-test.false, c.order-count.ensures.value)) c.nodes.invariant.found

pub returns-clause-within : goal.returns-clause-within
returns-clause-within c =
    last_within c.args.code.now c.args.kept.now c.nodes.last c.order-count.ensures.code
    (last_of_code c.args.code.now c.args.kept.now c.nodes.node c.nodes.last c.order-count.ensures.code c.requires (omega (arith, c.nodes-test.false, c.order-count.ensures.value)) c.nodes.invariant.found)
