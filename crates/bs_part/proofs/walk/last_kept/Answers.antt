use Rattle.std.proofs.Common.{◌∙◌, ◌+◌, ◌-◌, ◌<◌, ap, sym, arith, ℕ, Option, true, false, length, take, drop}
use Rattle.bs_part.specs.Walk.{last_place}
use Rattle.bs_part.proofs.Items.{last_step, last_of_code, last_within}
use Rattle.bs_part.proofs.walk.last_kept.Goals.{then-kept-node, else-kept-node}
use Rattle.bs_part.proofs.walk.last_kept.Goals as goal

pub nodes-preserved : goal.nodes-preserved
nodes-preserved c =
    let s = c.args.code.now in
    let kept = c.args.kept.now in
    let i = c.nodes.node in
    let inside : i < length s = omega (arith, c.nodes-test.true, c.order-node-end.ensures.value) in
    let pass : Option ℕ → Option ℕ = λ o. last_place (i + 1) o (take (length s - (i + 1)) (drop (i + 1) kept)) in
    elim c.if-kept-node.branch [
      | then-kept-node w ↦ ap pass w.last-is ∙ sym (last_step kept i (length s) c.nodes.last true inside c.requires w.if-kept-node.true) ∙ c.nodes.invariant
      | else-kept-node w ↦ ap pass w.last-is ∙ sym (last_step kept i (length s) c.nodes.last false inside c.requires w.if-kept-node.false) ∙ c.nodes.invariant
    ]

pub returns-clause-value : goal.returns-clause-value
returns-clause-value c =
    last_of_code c.args.code.now c.args.kept.now c.nodes.node c.nodes.last (omega (arith, c.nodes-test.false, c.order-node-end.ensures.value)) c.nodes.invariant

pub returns-clause-within : goal.returns-clause-within
returns-clause-within c =
    last_within c.args.code.now c.args.kept.now c.nodes.last c.order-node-end.ensures.code c.requires
    (last_of_code c.args.code.now c.args.kept.now c.nodes.node c.nodes.last (omega (arith, c.nodes-test.false, c.order-node-end.ensures.value)) c.nodes.invariant)
