-- What holds of each code: the tree that it describes is sorted, and so are its children's codes.
use Rattle.std.proofs.Common.{◌≡◌, ℕ, suc, zero, ◌+◌, ◌≤◌, ◌<◌, true, leb, List, ◌∷◌, length, map, slice_get, Some, refl, ap, ap₂, subst, sym, ◌∙◌, arith, sum, IsSorted, All}
use Rattle.std.specs.Ordering.{flip_args}
use Rattle.std.proofs.lemmas.Bool.{le-leb, and_from}
use Rattle.std.proofs.lemmas.List.Elements.{All-nil, All-cons}
use Rattle.std.proofs.lemmas.List.Sums.{sum_by-cons}
use Rattle.bs_tree.specs.Tree.{Forest, none, grow, Tree, nodes, order, trees, forest, Coloured}
use Rattle.bs_tree.specs.Canonical.{level_sequence, canonical_sequence, canonical_of, sorted, insert, is_above, sequence_cmp}
use Rattle.bs_tree.specs.Code.{IsCode, tree_of, has_valid_levels, is_level_sequence, code_of_pairs, child_codes, root_colour, joined}
use Rattle.bs_tree.specs.Subtrees.{subtree_of, IsSubtree}
use Rattle.bs_tree.specs.OrderLaws.{sequence_total}
use Rattle.bs_tree.specs.SortingLaws.{by_cases}
use Rattle.bs_tree.proofs.SortLists.{sort}
use Rattle.bs_tree.proofs.Decreasing.{sort-IsSorted}
use Rattle.bs_tree.proofs.Isomorphic.{sorted_tree}
use Rattle.bs_tree.specs.SortingLaws.{sorted-sorted}
use Rattle.bs_tree.proofs.Trees.{forest-trees}
use Rattle.bs_tree.proofs.Joins.{joined-sequences, sequences}
use Rattle.bs_tree.specs.SubtreeLaws.{tree_of-level_sequence}
use Rattle.bs_tree.specs.SubtreeLaws.{length-level_sequence_at}
use Rattle.bs_tree.proofs.CodeOf.{canon_is_code, sequences-sorted, exact}
use Rattle.bs_tree.proofs.Levels.{levels_valid, colours_all, level_sequence_subtree}
use Rattle.bs_tree.specs.SubtreeLaws.{subtree_within}
use Rattle.bs_tree.specs.SortingLaws.{nodes-sorted}
use Rattle.std.proofs.lemmas.List.Elements.{All-weaker}
use Rattle.bs_tree.specs.declared.TheConstants.{MAX_NODES}

-- ---- a code is a level sequence
pub code_level_sequence : (s : List (ℕ × ℕ)) → IsCode s → is_level_sequence s ≡ true
code_level_sequence s h =
    let valid : has_valid_levels s ≡ true = subst (λ (ps : List (ℕ × ℕ)). has_valid_levels ps ≡ true) h.canonical (levels_valid (canonical_of (tree_of s))) in
    and_from (leb (length s) MAX_NODES) _ (le-leb (length s) MAX_NODES h.small) (and_from (has_valid_levels s) _ valid (colours_all s h.colours))

pub code_subtree : (s : List (ℕ × ℕ)) → IsCode s → IsSubtree s × (subtree_of s ≡ tree_of s)
code_subtree s h = level_sequence_subtree s (code_level_sequence s h)

pub code_tree : (s : List (ℕ × ℕ)) → IsCode s → canonical_of (tree_of s) ≡ tree_of s
code_tree s h = sym (tree_of-level_sequence (canonical_of (tree_of s))) ∙ ap tree_of h.canonical

pub code_written : (s : List (ℕ × ℕ)) → IsCode s → level_sequence (tree_of s) ≡ s
code_written s h = ap level_sequence (sym (code_tree s h)) ∙ h.canonical

pub code_within : (s : List (ℕ × ℕ)) → IsCode s → (order (tree_of s) ≡ length s) × ((tree_of s).colour < 4) × Coloured 4 (tree_of s).below
code_within s h =
    let c = code_subtree s h in
    subst (λ (t : Tree). (order t ≡ length s) × (t.colour < 4) × Coloured 4 t.below) c.1 (subtree_within s c.0)

pub code_back : (s : List (ℕ × ℕ)) → IsCode s → code_of_pairs s ≡ Some s
code_back s h = rw (code_level_sequence s h, h.canonical) refl

-- ---- the children of a sorted list of trees are sorted
abbrev pub KidsSorted : Forest → Type 0
KidsSorted none = Unit {0}
KidsSorted (grow c kids rest) = (sorted kids ≡ kids) × KidsSorted rest

kids_insert : (t : Tree) (f : Forest) → sorted t.below ≡ t.below → KidsSorted f → KidsSorted (insert t f)
kids_insert t none e h = (e, tt)
kids_insert t (grow d below more) e h =
    by_cases (is_above (record { colour = d; below = below }) t)
    (λ y. rw y (h.0, kids_insert t more e h.1))
    (λ n. rw n (e, h))

kids_sorted : (f : Forest) → KidsSorted (sorted f)
kids_sorted none = tt
kids_sorted (grow c kids rest) = kids_insert (sorted_tree c kids) (sorted rest) (sorted-sorted kids) (kids_sorted rest)

code_below : (s : List (ℕ × ℕ)) → IsCode s → sorted (tree_of s).below ≡ (tree_of s).below
code_below s h = ap (λ (t : Tree). t.below) (code_tree s h)

pub code_kids : (s : List (ℕ × ℕ)) → IsCode s → KidsSorted (tree_of s).below
code_kids s h = subst KidsSorted (code_below s h) (kids_sorted (tree_of s).below)

same_sequence : (t : Tree) → sorted t.below ≡ t.below → canonical_sequence t ≡ level_sequence t
same_sequence t e = ap (λ (f : Forest). let u : Tree = record { colour = t.colour; below = f } in level_sequence u) e

kid_at : (f : Forest) (place : ℕ) (t : Tree) → KidsSorted f → slice_get (trees f) place ≡ Some t → sorted t.below ≡ t.below
kid_at none place t h e = cc
kid_at (grow c kids rest) zero t h e =
    let u : Tree = record { colour = c; below = kids } in
    let same : u ≡ t = cc in
    subst (λ (v : Tree). sorted v.below ≡ v.below) same h.0
kid_at (grow c kids rest) (suc place) t h e = kid_at rest place t h.1 e

pub child_written : (s : List (ℕ × ℕ)) (place : ℕ) (t : Tree) → IsCode s → slice_get (trees (tree_of s).below) place ≡ Some t → canonical_sequence t ≡ level_sequence t
child_written s place t h e = same_sequence t (kid_at (tree_of s).below place t (code_kids s h) e)

pub all_sequences : (f : Forest) → KidsSorted f → map canonical_sequence (trees f) ≡ sequences f
all_sequences none h = refl
all_sequences (grow c kids rest) h = ap₂ (λ (x : List (ℕ × ℕ)) (xs : List (List (ℕ × ℕ))). x ∷ xs) (same_sequence (record { colour = c; below = kids }) h.0) (all_sequences rest h.1)

-- ---- the codes of the children
below_within : (k : ℕ) (f : Forest) → Coloured 4 f → nodes f ≤ k → k < MAX_NODES → All (λ s. IsCode s × (length s ≤ k)) (map canonical_sequence (trees f))
below_within k none c h m = All-nil (λ (s : List (ℕ × ℕ)). IsCode s × (length s ≤ k))
below_within k (grow d kids rest) c h m =
    let t : Tree = record { colour = d; below = kids } in
    let code : IsCode (canonical_sequence t) = canon_is_code t (omega arith) c.0 c.1 in
    let size : length (canonical_sequence t) ≡ suc (nodes (sorted kids)) = ap suc (length-level_sequence_at 2 (sorted kids)) in
    All-cons (λ (s : List (ℕ × ℕ)). IsCode s × (length s ≤ k)) (canonical_sequence t) (map canonical_sequence (trees rest))
    (code, omega (arith, size, nodes-sorted kids)) (below_within k rest c.2 (omega arith) m)

pub children_are_codes : (s : List (ℕ × ℕ)) → IsCode s → All (λ c. IsCode c × (length c < length s)) (child_codes s)
children_are_codes s h =
    let w = code_within s h in
    let k = nodes (tree_of s).below in
    let m : k < MAX_NODES = omega (arith, h.small, w.0) in
    All-weaker (λ (c : List (ℕ × ℕ)). IsCode c × (length c ≤ k)) (λ (c : List (ℕ × ℕ)). IsCode c × (length c < length s)) (λ c p. (p.0, let q = p.1 in omega (arith, w.0))) (child_codes s)
    (below_within k (tree_of s).below w.2 (omega arith) m)

pub children_decrease : (s : List (ℕ × ℕ)) → IsCode s → IsSorted (flip_args sequence_cmp) (child_codes s)
children_decrease s h =
    let ts = trees (tree_of s).below in
    let sorted_forest : sorted (forest ts) ≡ (tree_of s).below = ap sorted (forest-trees (tree_of s).below) ∙ code_below s h in
    let e : sort sequence_cmp sequence_total exact (child_codes s) ≡ child_codes s = sym (sequences-sorted ts) ∙ ap sequences sorted_forest ∙ sym (all_sequences (tree_of s).below (code_kids s h)) in
    subst (IsSorted (flip_args sequence_cmp)) e (sort-IsSorted sequence_cmp sequence_total exact (child_codes s))

pub code_joined : (s : List (ℕ × ℕ)) → IsCode s → s ≡ joined (root_colour s) (child_codes s)
code_joined s h =
    let t = tree_of s in
    let e : sequences (sorted t.below) ≡ child_codes s = ap sequences (code_below s h) ∙ sym (all_sequences t.below (code_kids s h)) in
    sym h.canonical ∙ sym (joined-sequences t) ∙ ap (joined t.colour) e

pub colour_and_children : (a b : List (ℕ × ℕ)) → IsCode a → IsCode b → root_colour a ≡ root_colour b → child_codes a ≡ child_codes b → a ≡ b
colour_and_children a b h k c e = code_joined a h ∙ ap₂ (λ (i : ℕ) (cs : List (List (ℕ × ℕ))). joined i cs) c e ∙ sym (code_joined b k)

lengths_add_up : (f : Forest) → sum (map length (map canonical_sequence (trees f))) ≡ nodes f
lengths_add_up none = refl
lengths_add_up (grow c kids rest) =
    let t : Tree = record { colour = c; below = kids } in
    let size : length (canonical_sequence t) ≡ suc (nodes (sorted kids)) = ap suc (length-level_sequence_at 2 (sorted kids)) in
    omega (arith, sum_cons (length (canonical_sequence t)) (map length (map canonical_sequence (trees rest))), lengths_add_up rest, size, nodes-sorted kids)
  where
    sum_cons : (n : ℕ) (ns : List ℕ) → sum (n ∷ ns) ≡ n + sum ns
    sum_cons n ns = sum_by-cons (λ (k : ℕ). k) n ns

pub children_add_up : (s : List (ℕ × ℕ)) → IsCode s → length s ≡ 1 + sum (map length (child_codes s))
children_add_up s h = let w = code_within s h in omega (arith, w.0, lengths_add_up (tree_of s).below)
