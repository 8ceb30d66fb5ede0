use Rattle.std.proofs.Common.{◌≡◌, ◌∙◌, ap, ap₂, take, drop}
use Rattle.bs_tree.specs.Subtrees.{first_count, repeats}
use Rattle.bs_tree.proofs.build.later_same.Goals as goal

pub returns-clause-value : goal.returns-clause-value
returns-clause-value c =
    let ps = c.args.pairs.now in
    let front : c.split_at.result.0.now ≡ take (first_count ps) ps = c.split_at.ensures.front ∙ ap (λ n. take n ps) c.first_count.ensures.value in
    let back : c.split_at.result.1.now ≡ drop (first_count ps) ps = c.split_at.ensures.back ∙ ap (λ n. drop n ps) c.first_count.ensures.value in
    c.repeats.ensures.value ∙ ap₂ repeats front back
