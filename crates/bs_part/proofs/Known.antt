-- What is known of parts stays so where the edges that change are behind the part's subtree.
use Rattle.std.proofs.Common.{◌≡◌, ℕ, suc, zero, ◌+◌, ◌-◌, ◌<◌, ◌≤◌, List, [], ◌∷◌, take, drop, length, replicate, set, get_or, Bool, Option, Some, None, arith, refl, sym, ◌∙◌, ap, subst, inl, inr, eqb, ltb}
use Rattle.std.proofs.lemmas.List.{get_or-set_same, get_or-set_other}
use Rattle.std.proofs.lemmas.Bool.{cases_Bool, eqb-true, eqb-false, ltb-true, ltb-false}
use Rattle.std.proofs.lemmas.Slice.{between_is}
use Rattle.bs_tree.specs.Code.{IsCode}
use Rattle.bs_tree.specs.Canonical.{canonical_sequence}
use Rattle.bs_tree.specs.Subtrees.{first_count, tree_at, IsSubtree}
use Rattle.bs_tree.specs.Pruned.{kept_by, pruned, kept_pairs}
use Rattle.bs_tree.specs.SubtreeLaws.{subtree_at}
use Rattle.bs_tree.specs.Tree.{Forest, none, grow, Tree, nodes}
use Rattle.bs_tree.proofs.CodeFacts.{code_subtree}
use Rattle.bs_tree.proofs.Pruned.{pruned_at}
use Rattle.bs_part.specs.Known.{AreEnds, IsPart, AreKnown, StaysKnown}
use Rattle.bs_part.specs.Walk.{cut_after}
use Rattle.bs_part.proofs.Counter.{length-cut_after}

abbrev Pairs : Type 0
Pairs = List (ℕ × ℕ)

-- the letters in front of the cut stay
cut_front : (i n : ℕ) (w : List Bool) → n ≤ i → take n (cut_after i w) ≡ take n w
cut_front i zero w h = refl
cut_front i (suc n) [] h = refl
cut_front zero (suc n) (b ∷ w) h = absurd (omega arith)
cut_front (suc i) (suc n) (b ∷ w) h = ap (λ (v : List Bool). b ∷ v) (cut_front i n w (omega arith))

cut_between : (i j place : ℕ) (w : List Bool) → j ≤ place → take (j - i) (drop i w) ≡ take (j - i) (drop i (cut_after place w))
cut_between i j place w h = between_is w i j ∙ ap (drop i) (sym (cut_front place j w h)) ∙ sym (between_is (cut_after place w) i j)

-- a pruned tree is that of the letters of its subtree
pruned_there : (s : Pairs) (v w : List Bool) (i j : ℕ) → IsSubtree s → i < length s → length s ≤ length v → length s ≤ length w → j ≡ i + first_count (drop i s)
    → take (j - i) (drop i v) ≡ take (j - i) (drop i w) → pruned (tree_at s i) (drop (i + 1) v) ≡ pruned (tree_at s i) (drop (i + 1) w)
pruned_there s v w i j h lt k m end same =
    let first : Pairs = take (j - i) (drop i s) in
    let u : List Bool = take (j - i) (drop i v) in
    let qs : Pairs = get_or first 0 (0, 0) ∷ kept_pairs 0 (drop 1 first) (drop 1 u) in
    sym (pruned_at s v i j first qs u h lt k end refl refl refl).1 ∙ (pruned_at s w i j first qs u h lt m end refl same refl).1

-- a leaf is its own part, whatever the letters
no_nodes : (f : Forest) → nodes f ≡ 0 → f ≡ none
no_nodes none h = refl
no_nodes (grow c kids rest) h = absurd (omega arith)

leaf_there : (s : Pairs) (v w : List Bool) (i : ℕ) → IsSubtree s → i < length s → first_count (drop i s) ≤ 1 → pruned (tree_at s i) v ≡ pruned (tree_at s i) w
leaf_there s v w i h lt one =
    let t = tree_at s i in
    let order = (subtree_at s i h lt).order_is in
    let bare : t.below ≡ none = no_nodes t.below (omega arith) in
    let of : Forest → Tree = λ (f : Forest). record { colour = t.colour; below = f } in
    ap (λ (f : Forest). of (kept_by f v)) bare ∙ sym (ap (λ (f : Forest). of (kept_by f w)) bare)

part_stays : (s : Pairs) (kept : List Bool) (place node : ℕ) (part : Pairs) → IsCode s → length s ≤ length kept → node < length s → (1 < first_count (drop node s) → node + first_count (drop node s) ≤ place)
    → IsPart s kept node part → IsPart s (cut_after place kept) node part
part_stays s kept place node part h long lt end is =
    let later : length s ≤ length (cut_after place kept) = omega (arith, length-cut_after place kept) in
    is ∙ ap canonical_sequence
    (elim (cases_Bool (ltb 1 (first_count (drop node s)))) [
      | inl some ↦
          pruned_there s kept (cut_after place kept) node (node + first_count (drop node s)) (code_subtree s h).0 lt long later refl
          (cut_between node (node + first_count (drop node s)) place kept (end (ltb-true 1 (first_count (drop node s)) some)))
      | inr one ↦ leaf_there s (drop (node + 1) kept) (drop (node + 1) (cut_after place kept)) node (code_subtree s h).0 lt (ltb-false 1 (first_count (drop node s)) one)
    ])

-- ---- from item to item
pub none_known : (s : Pairs) (kept : List Bool) (n : ℕ) → AreKnown s kept (replicate n None)
none_known s kept n node part lt is = let none : get_or (replicate n None) node None ≡ None = all_none n node in cc
  where
    all_none : (n i : ℕ) → get_or (replicate {A = Option Pairs} n None) i None ≡ None
    all_none zero i = refl
    all_none (suc n) zero = refl
    all_none (suc n) (suc i) = all_none n i

pub known_more : (s : Pairs) (kept : List Bool) (known : List (Option Pairs)) (node : ℕ) (part : Pairs) → node < length known
    → AreKnown s kept known → IsPart s kept node part → AreKnown s kept (set known node (Some part))
known_more s kept known node part within h is n p lt found =
    elim (cases_Bool (eqb n node)) [
      | inl same ↦
          let at : n ≡ node = eqb-true n node same in
          let there : get_or (set known node (Some part)) node None ≡ Some part = get_or-set_same known node (Some part) None within in
          let some : Some p ≡ Some part = sym found ∙ ap (λ (i : ℕ). get_or (set known node (Some part)) i None) at ∙ there in
          let e : p ≡ part = cc in
          e ∙ subst (λ (i : ℕ). IsPart s kept i part) (sym at) is
      | inr other ↦ h n p lt (sym (get_or-set_other known node n (Some part) None (eqb-false n node other)) ∙ found)
    ]

pub known_after : (s : Pairs) (kept : List Bool) (ends : List ℕ) (place : ℕ) (old new : List (Option Pairs)) → IsCode s → length s ≤ length kept → AreEnds s ends
    → AreKnown s kept old → StaysKnown ends place old new → AreKnown s (cut_after place kept) new
known_after s kept ends place old new code long are_ends known stays node part lt is =
    let there = stays node part is in
    part_stays s kept place node part code long lt (λ some. omega (arith, are_ends node lt some, there.1)) (known node part lt there.0)
