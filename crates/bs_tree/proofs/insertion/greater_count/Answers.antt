use Rattle.std.proofs.Common.{◌≡◌, ◌∙◌, ◌+◌, ◌<◌, ℕ, List, sym, ap, arith, drop, length}
use Rattle.std.proofs.lemmas.List.{drop-drop}
use Rattle.bs_tree.specs.Insertion.{greater_first, greater_count}
use Rattle.bs_tree.proofs.Children.{rest_of_all}
use Rattle.bs_tree.proofs.Insertions.{count_more}
use Rattle.bs_tree.proofs.insertion.greater_count.Goals as goal

pub greater-preserved : goal.greater-preserved
greater-preserved c =
    let tree = c.args.tree.now in
    let later = c.args.later.now in
    let passed = c.greater.passed in
    let n = c.greater_first-count.result in
    let rest = drop passed later in
    let e : n ≡ greater_first rest tree = c.greater_first-count.ensures.value ∙ ap (λ (qs : List (ℕ × ℕ)). greater_first qs tree) (rest_of_all later passed) in
    let some : 0 < greater_first rest tree = omega (arith, e) in
    let more : greater_count tree rest ≡ n + greater_count tree (drop (passed + n) later) =
    count_more tree rest some
    ∙ ap (λ (i : ℕ). i + greater_count tree (drop i rest)) (sym e)
    ∙ ap (λ (qs : List (ℕ × ℕ)). n + greater_count tree qs) (drop-drop n passed later) in
    record {
      within = omega (arith, c.greater_first-count.ensures.within, ap length (rest_of_all later passed));
      counted = omega (arith, more, c.greater.invariant.counted);
    }
