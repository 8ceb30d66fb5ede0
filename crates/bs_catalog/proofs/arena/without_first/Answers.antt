use Rattle.std.proofs.Common.{◌≡◌, ◌∙◌, ◌++◌, ◌-◌, ◌<◌, true, sym, suc, subst, ap, ap₂, List, ℕ, take, drop, length, arith}
use Rattle.bs_tree.specs.Canonical.{canonical_sequence}
use Rattle.bs_tree.specs.Code.{tree_of, is_level_sequence}
use Rattle.bs_tree.specs.Subtrees.{first_count}
use Rattle.bs_catalog.specs.Making.{without_first, later_pairs}
use Rattle.bs_catalog.proofs.Merging.{two_parts, from_place}
use Rattle.bs_catalog.proofs.FirstChild.{parted}
use Rattle.bs_catalog.proofs.RowLaws.{shorter}
use Rattle.bs_catalog.specs.Shelf.{Code}
use Rattle.bs_catalog.proofs.arena.without_first.Goals as goal

pub subtree_end-end-requires : goal.subtree_end-end-requires
subtree_end-end-requires c = omega (arith, (parted c.args.code.now c.order-order.ensures.code c.requires).two)

pub of_level_sequence-requires : goal.of_level_sequence-requires
of_level_sequence-requires c =
    let n : c.subtree_end-end.result ≡ suc (first_count (drop 1 c.args.code.now)) = omega (arith, c.subtree_end-end.ensures.value) in
    let e : c.as_slice.result.now ≡ later_pairs c.args.code.now =
    c.as_slice.ensures.value
    ∙ two_parts (take 1 c.pairs.result.now) (take (length c.pairs-2.result.now - c.subtree_end-end.result) (drop c.subtree_end-end.result c.pairs-2.result.now))
    c.new-pairs.result c.push_all.new.all c.push_all-2.new.all c.new-pairs.ensures c.push_all.ensures c.push_all-2.ensures
    ∙ ap₂ (λ (x y : List (ℕ × ℕ)). x ++ y) (ap (take 1) c.pairs.ensures.value)
    (from_place c.subtree_end-end.result c.pairs-2.result.now ∙ ap₂ (λ (m : ℕ) (ps : List (ℕ × ℕ)). drop m ps) n c.pairs-2.ensures.value) in
    subst (λ (ps : List (ℕ × ℕ)). is_level_sequence ps ≡ true) (sym e) (parted c.args.code.now c.order-order.ensures.code c.requires).later

pub returns-clause-is : goal.returns-clause-is
unfolding without_first
returns-clause-is c =
    let n : c.subtree_end-end.result ≡ suc (first_count (drop 1 c.args.code.now)) = omega (arith, c.subtree_end-end.ensures.value) in
    let e : c.as_slice.result.now ≡ later_pairs c.args.code.now =
    c.as_slice.ensures.value
    ∙ two_parts (take 1 c.pairs.result.now) (take (length c.pairs-2.result.now - c.subtree_end-end.result) (drop c.subtree_end-end.result c.pairs-2.result.now))
    c.new-pairs.result c.push_all.new.all c.push_all-2.new.all c.new-pairs.ensures c.push_all.ensures c.push_all-2.ensures
    ∙ ap₂ (λ (x y : List (ℕ × ℕ)). x ++ y) (ap (take 1) c.pairs.ensures.value)
    (from_place c.subtree_end-end.result c.pairs-2.result.now ∙ ap₂ (λ (m : ℕ) (ps : List (ℕ × ℕ)). drop m ps) n c.pairs-2.ensures.value) in
    c.of_level_sequence.ensures ∙ ap (λ (ps : List (ℕ × ℕ)). canonical_sequence (tree_of ps)) e

pub returns-clause-shorter : goal.returns-clause-shorter
unfolding without_first
returns-clause-shorter c =
    let n : c.subtree_end-end.result ≡ suc (first_count (drop 1 c.args.code.now)) = omega (arith, c.subtree_end-end.ensures.value) in
    let e : c.as_slice.result.now ≡ later_pairs c.args.code.now =
    c.as_slice.ensures.value
    ∙ two_parts (take 1 c.pairs.result.now) (take (length c.pairs-2.result.now - c.subtree_end-end.result) (drop c.subtree_end-end.result c.pairs-2.result.now))
    c.new-pairs.result c.push_all.new.all c.push_all-2.new.all c.new-pairs.ensures c.push_all.ensures c.push_all-2.ensures
    ∙ ap₂ (λ (x y : List (ℕ × ℕ)). x ++ y) (ap (take 1) c.pairs.ensures.value)
    (from_place c.subtree_end-end.result c.pairs-2.result.now ∙ ap₂ (λ (m : ℕ) (ps : List (ℕ × ℕ)). drop m ps) n c.pairs-2.ensures.value) in
    let is : c.of_level_sequence.result ≡ without_first c.args.code.now = c.of_level_sequence.ensures ∙ ap (λ (ps : List (ℕ × ℕ)). canonical_sequence (tree_of ps)) e in
    let less : length (without_first c.args.code.now) < length c.args.code.now = shorter c.args.code.now c.order-order.ensures.code (parted c.args.code.now c.order-order.ensures.code c.requires).two in
    subst (λ (x : Code). length x < length c.args.code.now) (sym is) less
