use Rattle.std.proofs.Common.{◌∙◌, ◌++◌, ◌+◌, ℕ, List, ap, drop}
use Rattle.bs_tree.proofs.Insertions.{turned, moved_is}
use Rattle.bs_tree.proofs.insertion.insert_first.Goals as goal

pub returns : goal.returns
returns c =
    let ps = c.args.pairs.now in
    let n = c.first_count-count.result in
    let m = c.passed_count-passed.result in
    ap (λ (xs : List (ℕ × ℕ)). xs ++ drop (n + m) ps) c.turn.ensures
    ∙ turned ps n m
    ∙ moved_is ps n m c.first_count-count.ensures.value c.passed_count-passed.ensures.value
