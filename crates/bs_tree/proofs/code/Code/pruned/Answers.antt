use Rattle.std.proofs.Common.{◌≡◌, ◌∙◌, ◌+◌, ◌-◌, ℕ, List, refl, ap, sym, subst, arith, length, drop, take}
use Rattle.bs_tree.specs.Subtrees.{first_count, subtree_of, tree_at, IsSubtree}
use Rattle.bs_tree.specs.Canonical.{canonical_sequence}
use Rattle.bs_tree.specs.Pruned.{pruned}
use Rattle.bs_tree.proofs.Pruned.{pruned_at}
use Rattle.bs_tree.proofs.CodeFacts.{code_subtree}
use Rattle.bs_tree.proofs.code.Code.pruned.Goals as goal

pub code_of-requires : goal.code_of-requires
code_of-requires c =
    let ps = c.pairs.result.now in
    let w = c.args.kept.now in
    let i = c.args.node in
    let e = c.subtree_end-end.result in
    let same = ap length c.pairs.ensures.value in
    let end : e ≡ i + first_count (drop i ps) = omega (arith, c.subtree_end-end.ensures.value, ap (λ (qs : List (ℕ × ℕ)). first_count (drop i qs)) c.pairs.ensures.value) in
    let r = pruned_at ps w i e (take (e - i) (drop i ps)) c.kept_pairs-rest.result (take (e - i) (drop i w)) (code_subtree ps c.pairs.ensures.code).0
    (omega (arith, c.requires.node, same)) (omega (arith, c.requires.letters, same)) end refl refl c.kept_pairs-rest.ensures in
    record { subtree = subst IsSubtree (sym c.as_slice.ensures.value) r.0 }

pub returns : goal.returns
returns c =
    let ps = c.pairs.result.now in
    let w = c.args.kept.now in
    let i = c.args.node in
    let e = c.subtree_end-end.result in
    let same = ap length c.pairs.ensures.value in
    let end : e ≡ i + first_count (drop i ps) = omega (arith, c.subtree_end-end.ensures.value, ap (λ (qs : List (ℕ × ℕ)). first_count (drop i qs)) c.pairs.ensures.value) in
    let r = pruned_at ps w i e (take (e - i) (drop i ps)) c.kept_pairs-rest.result (take (e - i) (drop i w)) (code_subtree ps c.pairs.ensures.code).0
    (omega (arith, c.requires.node, same)) (omega (arith, c.requires.letters, same)) end refl refl c.kept_pairs-rest.ensures in
    c.code_of.ensures ∙ ap (λ (qs : List (ℕ × ℕ)). canonical_sequence (subtree_of qs)) c.as_slice.ensures.value ∙ ap canonical_sequence r.1
    ∙ ap (λ (qs : List (ℕ × ℕ)). canonical_sequence (pruned (tree_at qs i) (drop (i + 1) w))) c.pairs.ensures.value
