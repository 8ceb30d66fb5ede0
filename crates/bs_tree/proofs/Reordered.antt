-- Children put in order and each made canonical are the children of the canonical tree.
use Rattle.std.proofs.Common.{◌≡◌, ℕ, zero, suc, sum_by, IsTrue, ◌+◌, ◌≤◌, ◌<◌, List, [], ◌∷◌, ◌++◌, length, get_or, set, take, drop, map, refl, ap, ap₂, sym, subst, ◌∙◌, arith, IsPermutation, IsSorted, IsSortedByKey}
use Rattle.std.specs.Ordering.{flip_args}
use Rattle.std.proofs.lemmas.List.{get_or-map, length-map, take_more, take_more_set, drop_more, map-append, take_all}
use Rattle.std.proofs.lemmas.List.Sums.{sum_by-cons}
use Rattle.std.proofs.lemmas.List.Sorted.{IsPermutation-map, sum_by-IsPermutation}
use Rattle.bs_tree.specs.Tree.{Forest, none, Tree, nodes, order, trees, forest, IsWithin}
use Rattle.bs_tree.specs.Isomorphic.{isomorphic}
use Rattle.bs_tree.specs.Canonical.{level_sequence, sorted, sequence_cmp, canonical_sequence, canonical_of, IsCanonicalSequence}
use Rattle.bs_tree.proofs.Canon.{same_tree_from_sequence, isomorphic_canonical, canon_is}
use Rattle.bs_tree.proofs.CodeOf.{sorted_codes, coloured-sorted}
use Rattle.bs_tree.specs.SortingLaws.{nodes-sorted}
use Rattle.bs_tree.proofs.Trees.{forest-trees}

same_trees : (ts us : List Tree) → map level_sequence ts ≡ map level_sequence us → ts ≡ us
same_trees [] [] h = refl
same_trees [] (u ∷ us) h = cc
same_trees (t ∷ ts) [] h = cc
same_trees (t ∷ ts) (u ∷ us) h =
    let first : level_sequence t ≡ level_sequence u = cc in
    let rest : map level_sequence ts ≡ map level_sequence us = cc in
    ap₂ (λ (x : Tree) (xs : List Tree). x ∷ xs) (same_tree_from_sequence t u first) (same_trees ts us rest)

sequences-canonical_of : (ts : List Tree) → map level_sequence (map canonical_of ts) ≡ map canonical_sequence ts
sequences-canonical_of [] = refl
sequences-canonical_of (t ∷ ts) = ap (λ (ss : List (List (ℕ × ℕ))). canonical_sequence t ∷ ss) (sequences-canonical_of ts)

sorted_keys : (ts : List Tree) → IsSortedByKey canonical_sequence (flip_args sequence_cmp) ts → IsSorted (flip_args sequence_cmp) (map canonical_sequence ts)
sorted_keys ts h = λ k d lo lt.
    let leaf : Tree = record { colour = 0; below = none } in
    let n : k + 1 < length ts = omega (arith, length-map ts canonical_sequence) in
    rw (get_or-map canonical_sequence ts (k + 1) leaf d n, get_or-map canonical_sequence ts k leaf d (omega arith)) (h k leaf lo n)

-- a permutation in order, each tree made canonical
pub canonical_trees : (ts us : List Tree) → IsPermutation ts us → IsSortedByKey canonical_sequence (flip_args sequence_cmp) us → map canonical_of us ≡ trees (sorted (forest ts))
canonical_trees ts us p h =
    same_trees (map canonical_of us) (trees (sorted (forest ts)))
    (sequences-canonical_of us ∙ sorted_codes ts (map canonical_sequence us) (IsPermutation-map canonical_sequence ts us p) (sorted_keys us h))

pub canonical_forest : (ts us : List Tree) → IsPermutation ts us → IsSortedByKey canonical_sequence (flip_args sequence_cmp) us → forest (map canonical_of us) ≡ sorted (forest ts)
canonical_forest ts us p h = ap forest (canonical_trees ts us p h) ∙ forest-trees (sorted (forest ts))

-- all children made canonical
pub canonical_whole : (ts us zs : List Tree) (place : ℕ) → IsPermutation ts us → IsSortedByKey canonical_sequence (flip_args sequence_cmp) us → length us ≤ place → length zs ≡ length us
    → take place zs ≡ map canonical_of (take place us) → forest zs ≡ sorted (forest ts)
canonical_whole ts us zs place p h end size front =
    let all : zs ≡ map canonical_of us =
    sym (take_all place zs (omega arith)) ∙ front ∙ ap (map canonical_of) (take_all place us end) in
    ap forest all ∙ canonical_forest ts us p h

-- what two lists with one rest begin with
pub rest_begins : (xs ys : List Tree) (i : ℕ) (d : Tree) → i < length xs → i < length ys → drop i xs ≡ drop i ys → (get_or xs i d ≡ get_or ys i d) × (drop (i + 1) xs ≡ drop (i + 1) ys)
rest_begins xs ys i d h k e =
    let both : get_or xs i d ∷ drop (i + 1) xs ≡ get_or ys i d ∷ drop (i + 1) ys = sym (drop_more xs i d h) ∙ e ∙ drop_more ys i d k in
    (cc, cc)

-- one more child made canonical
pub canonical_more : (us xs : List Tree) (i : ℕ) (d t : Tree) → i < length xs → i < length us → take i xs ≡ map canonical_of (take i us) → drop i xs ≡ drop i us → d ≡ get_or xs i d → t ≡ canonical_of d
    → take (i + 1) (set xs i t) ≡ map canonical_of (take (i + 1) us)
canonical_more us xs i d t h k front back is e =
    let same : t ≡ canonical_of (get_or us i d) = e ∙ ap canonical_of (is ∙ (rest_begins xs us i d h k back).0) in
    take_more_set xs i t h
    ∙ ap₂ (λ (ys : List Tree) (y : Tree). ys ++ y ∷ []) front same
    ∙ sym (map-append canonical_of (take i us) (get_or us i d ∷ [])) ∙ ap (map canonical_of) (sym (take_more us i d k))

-- ---- the number of nodes
nodes_sum : (ts : List Tree) → nodes (forest ts) ≡ sum_by order ts
nodes_sum [] = refl
nodes_sum (t ∷ ts) = ap (λ (n : ℕ). order t + n) (nodes_sum ts) ∙ sym (sum_by-cons order t ts)

pub nodes-permutation : (ts us : List Tree) → IsPermutation ts us → nodes (forest us) ≡ nodes (forest ts)
nodes-permutation ts us p = nodes_sum us ∙ sum_by-IsPermutation order ts us p ∙ sym (nodes_sum ts)

order_le-nodes : (ts : List Tree) (i : ℕ) (d : Tree) → i < length ts → order (get_or ts i d) ≤ nodes (forest ts)
order_le-nodes [] i d h = absurd (omega arith)
order_le-nodes (t ∷ ts) zero d h = omega arith
order_le-nodes (t ∷ ts) (suc i) d h = omega (arith, order_le-nodes ts i d (omega arith))

-- a child among the reordered children is smaller than the tree
pub child_smaller : (ts us xs : List Tree) (i : ℕ) (d : Tree) → IsPermutation ts us → i < length xs → i < length us → drop i xs ≡ drop i us → d ≡ get_or xs i d → order d ≤ nodes (forest ts)
child_smaller ts us xs i d p h k back is =
    let same : d ≡ get_or us i d = is ∙ (rest_begins xs us i d h k back).0 in
    let le : order (get_or us i d) ≤ nodes (forest us) = order_le-nodes us i d k in
    omega (arith, nodes-permutation ts us p, ap order same)

-- ---- the whole tree
pub same_view : (c k : ℕ) (f g : Forest) (u : Tree) → k ≡ c → g ≡ sorted f → (let v : Tree = record { colour = c; below = f } in v) ≡ u
    → (let v : Tree = record { colour = k; below = g } in v) ≡ canonical_of u
same_view c k f g u e1 e2 view =
    ap₂ (λ (n : ℕ) (x : Forest). let v : Tree = record { colour = n; below = x } in v) e1 e2 ∙ ap canonical_of view

pub isomorphic_view : (u v : Tree) → v ≡ canonical_of u → IsTrue (isomorphic u v)
isomorphic_view u v e = ap (isomorphic u) e ∙ isomorphic_canonical u

pub sequence_view : (u v : Tree) → v ≡ canonical_of u → IsCanonicalSequence u (level_sequence v)
sequence_view u v e = subst (λ (w : Tree). IsCanonicalSequence u (level_sequence w)) (sym e) (canon_is u)

-- a canonical tree stays within its bounds
pub within_sorted : (colour count : ℕ) (f : Forest) → IsWithin colour count f → IsWithin colour count (sorted f)
within_sorted colour count f i = record {
  root = i.root;
  coloured = coloured-sorted 4 f i.coloured;
  small = i.small;
  count_is = i.count_is ∙ ap suc (sym (nodes-sorted f));
}
