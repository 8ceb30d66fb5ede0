use Rattle.std.proofs.Common.{◌≡◌, ◌≤◌, ◌∙◌, ◌++◌, ◌∷◌, [], ◌+◌, ◌-◌, ◌<◌, ap, sym, subst, arith, ℕ, List, length, set, get_or, drop, append_assoc, length-append, length-set}
use Rattle.std.specs.List.{AllByRecursion}
use Rattle.bs_part.specs.Walk.{hung_pairs}
use Rattle.bs_part.proofs.Skeletons.{hung_more, hung_one, within_more, within_set, within_at, level_at}
use Rattle.bs_part.proofs.walk.skeleton_pairs.Goals.{then-kept-node, else-kept-node}
use Rattle.bs_part.proofs.walk.skeleton_pairs.Goals as goal

pub nodes-preserved : goal.nodes-preserved
nodes-preserved c =
    let s = c.args.code.now in
    let kept = c.args.kept.now in
    let i = c.nodes.node in
    let before = c.nodes.pairs in
    let ds = c.nodes.levels in
    let l = c.from-level.result in
    let above = get_or ds (l - 1) 0 in
    let pass : List ℕ → List (ℕ × ℕ) = λ es. hung_pairs es (drop (i + 1) s) (drop (i + 1) kept) in
    let inside : i < length s = omega (arith, c.nodes-test.true, c.order-node-end.ensures.value) in
    let level : l ≡ (get_or s i (0, 0)).0 = level_at s i c.level.result l inside c.level.ensures.value c.from-level.ensures in
    let low = c.nodes.invariant.low in
    let at : above ≤ i = within_at i ds (l - 1) low in
    elim c.if-kept-node.branch [
      | then-kept-node w ↦
          record {
            few = omega (arith, c.nodes.invariant.few, ap length w.pairs-is);
            all = ap length w.levels-is ∙ length-set ds l above ∙ c.nodes.invariant.all;
            low = subst (λ es. AllByRecursion (λ d. d ≤ i + 1) es) (sym w.levels-is) (within_set (i + 1) ds l above (omega (arith, at)) (within_more i ds low));
            found = ap (λ (ps : List (ℕ × ℕ)). ps ++ pass c.if-kept-node.levels) w.pairs-is
                ∙ ap (λ (es : List ℕ). before ++ pass es) w.levels-is
                ∙ ap (λ (ps : List (ℕ × ℕ)). before ++ ps) (sym (hung_more ds s kept i l inside (omega (arith, c.requires)) w.if-kept-node.true level))
                ∙ c.nodes.invariant.found;
          }
      | else-kept-node w ↦
          let e : c.if-kept-node.pairs ≡ before ++ (above + 1, 0) ∷ [] = w.pairs-is ∙ w.push-else-kept-node.ensures in
          record {
            few = omega (arith, c.nodes.invariant.few, ap length e, length-append before ((above + 1, 0) ∷ []));
            all = ap length w.levels-is ∙ length-set ds l (above + 1) ∙ c.nodes.invariant.all;
            low = subst (λ es. AllByRecursion (λ d. d ≤ i + 1) es) (sym w.levels-is) (within_set (i + 1) ds l (above + 1) (omega (arith, at)) (within_more i ds low));
            found = ap (λ (ps : List (ℕ × ℕ)). ps ++ pass c.if-kept-node.levels) e
                ∙ ap (λ (es : List ℕ). (before ++ (above + 1, 0) ∷ []) ++ pass es) w.levels-is
                ∙ append_assoc before ((above + 1, 0) ∷ []) (pass (set ds l (above + 1)))
                ∙ ap (λ (ps : List (ℕ × ℕ)). before ++ ps) (sym (hung_one ds s kept i l inside (omega (arith, c.requires)) w.if-kept-node.false level))
                ∙ c.nodes.invariant.found;
          }
    ]
