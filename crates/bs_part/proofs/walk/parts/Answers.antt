use Rattle.std.proofs.Common.{◌≡◌, ◌∙◌, ◌++◌, ◌∷◌, [], ◌+◌, ◌<◌, ap, sym, subst, arith, ℕ, List, length, drop, append_assoc, length-append}
use Rattle.bs_part.specs.Known.{AreKnown}
use Rattle.bs_part.specs.Walk.{part_pairs}
use Rattle.bs_part.proofs.Items.{parts_of_code}
use Rattle.bs_part.proofs.Passes.{part_more, part_one}
use Rattle.bs_part.proofs.walk.parts.Goals.{then-not-kept-node, else-not-kept-node}
use Rattle.bs_part.proofs.walk.parts.Goals as goal

pub nodes-preserved : goal.nodes-preserved
nodes-preserved c =
    let s = c.args.code.now in
    let kept = c.args.kept.now in
    let i = c.nodes.node in
    let before = c.nodes.parts in
    let rest = part_pairs (drop (i + 1) s) (drop (i + 1) kept) in
    let inside : i < length s = omega (arith, c.nodes-test.true, c.order-count.ensures.value) in
    elim c.if-not-kept-node.branch [
      | then-not-kept-node w ↦
          let one = w.part_at-then-not-kept-node.result in
          let e : c.if-not-kept-node.parts ≡ before ++ one ∷ [] = w.parts-is ∙ w.push-then-not-kept-node.ensures in
          record {
            few = omega (arith, c.nodes.invariant.few, ap length e, length-append before (one ∷ []));
            found = ap (λ (cs : List (List (ℕ × ℕ))). cs ++ rest) e
                ∙ append_assoc before (one ∷ []) rest
                ∙ ap (λ (x : List (ℕ × ℕ)). before ++ x ∷ rest) w.part_at-then-not-kept-node.ensures.part
                ∙ ap (λ (cs : List (List (ℕ × ℕ))). before ++ cs) (sym (part_one s kept i inside (omega (arith, c.requires.letters)) w.if-not-kept-node.true))
                ∙ c.nodes.invariant.found;
            known = subst (AreKnown s kept) (sym w.known-is) w.part_at-then-not-kept-node.ensures.known;
            room = ap length w.known-is ∙ w.part_at-then-not-kept-node.ensures.room ∙ c.nodes.invariant.room;
          }
      | else-not-kept-node w ↦
          record {
            few = omega (arith, c.nodes.invariant.few, ap length w.parts-is);
            found = ap (λ (cs : List (List (ℕ × ℕ))). cs ++ rest) w.parts-is
                ∙ ap (λ (cs : List (List (ℕ × ℕ))). before ++ cs) (sym (part_more s kept i inside (omega (arith, c.requires.letters)) w.if-not-kept-node.false))
                ∙ c.nodes.invariant.found;
            known = subst (AreKnown s kept) (sym w.known-is) c.nodes.invariant.known;
            room = ap length w.known-is ∙ c.nodes.invariant.room;
          }
    ]

pub returns-clause-parts : goal.returns-clause-parts
returns-clause-parts c =
    parts_of_code c.args.code.now c.args.kept.now c.nodes.node c.nodes.parts c.order-count.ensures.code c.requires.letters (omega (arith, c.nodes-test.false, c.order-count.ensures.value)) c.nodes.invariant.found
