-- The sorted codes of the children, joined, are the canonical sequence.
use Rattle.std.proofs.Common.{◌≡◌, ℕ, ◌≤◌, ◌<◌, true, false, List, [], ◌∷◌, map, refl, ap, sym, ◌∙◌, arith, IsPermutation, IsSorted}
use Rattle.std.specs.Ordering.{flip_args, is_gt, is_eq}
use Rattle.std.specs.declared.cmp.Ordering.{Ordering}
use Rattle.std.specs.declared.cmp.Ordering.TheVariants.{Less, Equal, Greater}
use Rattle.std.proofs.lemmas.Cmp.{tied_itself}
use Rattle.bs_tree.specs.Tree.{Forest, none, grow, Tree, order, forest, Coloured}
use Rattle.bs_tree.specs.Canonical.{level_sequence}
use Rattle.bs_tree.specs.Canonical.{insert, sorted, canonical_sequence, sequence_cmp, is_above}
use Rattle.bs_tree.specs.Isomorphic.{isomorphic}
use Rattle.bs_tree.specs.Code.{IsCode, joined}
use Rattle.bs_tree.specs.OrderLaws.{sequence_total}
use Rattle.bs_tree.proofs.SortLists.{put, sort, sorted_is}
use Rattle.bs_tree.specs.SortingLaws.{by_cases}
use Rattle.bs_tree.proofs.Isomorphic.{sorted_tree}
use Rattle.bs_tree.proofs.Joins.{sequences, joined-sequences, canonical_sequence-tree_of}
use Rattle.bs_tree.specs.SubtreeLaws.{length-level_sequence_at}
use Rattle.bs_tree.specs.SortingLaws.{nodes-sorted}
use Rattle.bs_tree.proofs.Canon.{sequence_cmp-level_sequence, pair_sequence_equal, canon_is, isomorphic_from_canon, canon_from_isomorphic}
use Rattle.bs_tree.specs.SubtreeLaws.{coloured_sequence}
use Rattle.bs_tree.specs.declared.TheConstants.{MAX_NODES}

pub exact : (s r : List (ℕ × ℕ)) → sequence_cmp s r ≡ Equal → s ≡ r
exact s r h = pair_sequence_equal s r h

sequences-insert : (t : Tree) (f : Forest) → sequences (insert t f) ≡ put sequence_cmp sequence_total exact (level_sequence t) (sequences f)
sequences-insert t none = refl
sequences-insert t (grow d below more) =
    let v : Tree = record { colour = d; below = below } in
    let e : is_gt (sequence_cmp (level_sequence v) (level_sequence t)) ≡ is_above v t = ap is_gt (sequence_cmp-level_sequence v t) in
    by_cases (is_above v t)
    (λ k. let k' : is_gt (sequence_cmp (level_sequence v) (level_sequence t)) ≡ true = e ∙ k in rw (k, k') (ap (λ (ss : List (List (ℕ × ℕ))). level_sequence v ∷ ss) (sequences-insert t more)))
    (λ k. let k' : is_gt (sequence_cmp (level_sequence v) (level_sequence t)) ≡ false = e ∙ k in rw (k, k') refl)

pub sequences-sorted : (ts : List Tree) → sequences (sorted (forest ts)) ≡ sort sequence_cmp sequence_total exact (map canonical_sequence ts)
sequences-sorted [] = refl
sequences-sorted (t ∷ ts) =
    sequences-insert (sorted_tree t.colour t.below) (sorted (forest ts)) ∙ ap (put sequence_cmp sequence_total exact (canonical_sequence t)) (sequences-sorted ts)

pub sorted_codes : (ts : List Tree) (cs : List (List (ℕ × ℕ))) → IsPermutation (map canonical_sequence ts) cs → IsSorted (flip_args sequence_cmp) cs → cs ≡ sequences (sorted (forest ts))
sorted_codes ts cs p h = sorted_is sequence_cmp sequence_total exact (map canonical_sequence ts) cs p h ∙ sym (sequences-sorted ts)

pub joined_is : (t : Tree) (ts : List Tree) (cs : List (List (ℕ × ℕ))) → t.below ≡ forest ts → IsPermutation (map canonical_sequence ts) cs → IsSorted (flip_args sequence_cmp) cs → joined t.colour cs ≡ canonical_sequence t
joined_is t ts cs e p h = ap (joined t.colour) (sorted_codes ts cs p h ∙ ap (λ (f : Forest). sequences (sorted f)) (sym e)) ∙ joined-sequences t

-- ---- a tree's canonical sequence is a code
coloured-insert : (k : ℕ) (t : Tree) (f : Forest) → t.colour < k → Coloured k t.below → Coloured k f → Coloured k (insert t f)
coloured-insert k t none c d h = (c, d, tt)
coloured-insert k t (grow e below more) c d h =
    by_cases (is_above (record { colour = e; below = below }) t)
    (λ y. rw y (h.0, h.1, coloured-insert k t more c d h.2))
    (λ n. rw n (c, d, h))

pub coloured-sorted : (k : ℕ) (f : Forest) → Coloured k f → Coloured k (sorted f)
coloured-sorted k none h = tt
coloured-sorted k (grow c kids rest) h = coloured-insert k (sorted_tree c kids) (sorted rest) h.0 (coloured-sorted k kids h.1) (coloured-sorted k rest h.2)

pub canon_is_code : (t : Tree) → order t ≤ MAX_NODES → t.colour < 4 → Coloured 4 t.below → IsCode (canonical_sequence t)
canon_is_code t small c h = record {
  canonical = canonical_sequence-tree_of t;
  some = omega arith;
  small = omega (arith, length-level_sequence_at 2 (sorted t.below), nodes-sorted t.below);
  colours = (c, coloured_sequence 2 (sorted t.below) (coloured-sorted 4 t.below h));
}

-- ---- equal codes
eq_of : (o : Ordering) → o ≡ Equal → is_eq o ≡ true
eq_of o h = ap is_eq h

eq_out : (o : Ordering) → is_eq o ≡ true → o ≡ Equal
eq_out Less h = cc
eq_out Equal h = refl
eq_out Greater h = cc

pub codes_equal : (t u : Tree) → is_eq (sequence_cmp (canonical_sequence t) (canonical_sequence u)) ≡ isomorphic t u
codes_equal t u =
    by_cases (isomorphic t u)
    (λ y. let e : canonical_sequence t ≡ canonical_sequence u = canon_from_isomorphic t u (canonical_sequence t) (canonical_sequence u) (canon_is t) (canon_is u) y in
    ap (λ s. is_eq (sequence_cmp s (canonical_sequence u))) e ∙ eq_of (sequence_cmp (canonical_sequence u) (canonical_sequence u)) (tied_itself sequence_total (canonical_sequence u)) ∙ sym y)
    (λ n. by_cases (is_eq (sequence_cmp (canonical_sequence t) (canonical_sequence u)))
    (λ e. let y : isomorphic t u ≡ true = isomorphic_from_canon t u (canonical_sequence t) (canonical_sequence u) (canon_is t) (canon_is u) (exact (canonical_sequence t) (canonical_sequence u) (eq_out (sequence_cmp (canonical_sequence t) (canonical_sequence u)) e)) in cc)
    (λ e. e ∙ sym n))
