use Rattle.std.proofs.Common.{◌≡◌, IfSome, ◌∙◌, ◌++◌, ◌-◌, subst, ap₂, List, ℕ, take, drop, length}
use Rattle.bs_tree.specs.Canonical.{canonical_sequence}
use Rattle.bs_tree.specs.Code.{tree_of}
use Rattle.bs_catalog.specs.Making.{merged, merged_pairs}
use Rattle.bs_catalog.proofs.Merging.{some_code, three_parts, from_place}
use Rattle.bs_catalog.proofs.arena.merge_code.Goals as goal

pub returns : goal.returns
unfolding merged
returns c =
    let top = c.pairs-top.result.now in
    let e : c.as_slice.result.now ≡ merged_pairs c.args.first.now c.args.second.now =
    c.as_slice.ensures.value
    ∙ three_parts (take 1 c.pairs-top.result.now) (take (length c.pairs-below.result.now - 1) (drop 1 c.pairs-below.result.now)) (take (length c.pairs-top.result.now - 1) (drop 1 c.pairs-top.result.now))
    c.new-pairs.result c.push_all.new.all c.push_all-2.new.all c.push_all-3.new.all c.new-pairs.ensures c.push_all.ensures c.push_all-2.ensures c.push_all-3.ensures
    ∙ ap₂ (λ (m r : List (ℕ × ℕ)). take 1 c.pairs-top.result.now ++ (m ++ r)) (from_place 1 c.pairs-below.result.now) (from_place 1 c.pairs-top.result.now)
    ∙ ap₂ merged_pairs c.pairs-top.ensures.value c.pairs-below.ensures.value in
    subst (λ (ps : List (ℕ × ℕ)). IfSome c.of_pairs.result (λ code. code ≡ canonical_sequence (tree_of ps))) e (some_code c.of_pairs.result c.as_slice.result.now c.of_pairs.ensures)
