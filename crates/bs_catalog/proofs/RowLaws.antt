-- The rows of a tree are made of those of its first child and of those of the tree without it.
use Rattle.std.proofs.Common.{◌≡◌, ℕ, ◌<◌, ◌≤◌, List, [], ◌∷◌, ◌++◌, map, length, Some, None, slice_get, refl, ap, ap₂, sym, ◌∙◌, subst, arith}
use Rattle.std.specs.List.{flat_map}
use Rattle.std.proofs.lemmas.List.{map-append}
use Rattle.bs_tree.specs.Tree.{Forest, none, grow, Tree, trees, forest}
use Rattle.bs_tree.specs.Canonical.{level_sequence, canonical_of, canonical_sequence}
use Rattle.bs_tree.specs.Code.{tree_of, IsCode, child_codes}
use Rattle.bs_tree.specs.SortingLaws.{IsCanonical}
use Rattle.bs_tree.specs.SubtreeLaws.{tree_of-level_sequence, code_canonical, code_sequence}
use Rattle.bs_split.specs.Splitting as split
use Rattle.bs_split.specs.Splitting.{Cuts, Split, SplitCodes, cut_off, keep, cuts}
use Rattle.bs_part.specs.Partition as part
use Rattle.bs_part.specs.Partition.{node, Pieces, Part, PartCodes, keep_edge, cut_edge, pieces}
use Rattle.bs_catalog.specs.Shelf.{Code, split_row, split_rows, part_row, part_rows}
use Rattle.bs_catalog.specs.declared.way.Way.TheVariants.{CutOff, Keep, Join, Sever}
use Rattle.bs_catalog.specs.Making.{without_first, made, splits_made, parts_made}
use Rattle.bs_catalog.proofs.Merging.{attached_is, merged_is}
use Rattle.bs_catalog.proofs.FirstChild.{both_sorted, without_first_is, without_first_shorter}

abbrev pub Row : Type 0
Row = List Code

abbrev pub codes : List Tree → Row
codes ts = map level_sequence (map canonical_of ts)

codes_append : (ts us : List Tree) → codes (ts ++ us) ≡ codes ts ++ codes us
codes_append ts us = ap (map level_sequence) (map-append canonical_of ts us) ∙ map-append level_sequence (map canonical_of ts) (map canonical_of us)

-- ---- lists
three_maps : {A B C D : Type 0} (f : C → D) (g : B → C) (h : A → B) (xs : List A) → map f (map g (map h xs)) ≡ map (λ x. f (g (h x))) xs
three_maps f g h [] = refl
three_maps {D = D} f g h (x ∷ xs) = ap (λ (ys : List D). f (g (h x)) ∷ ys) (three_maps f g h xs)

map_through : {A : Type 0} (u v : A → Row) (g : A → A) (m : Row → Row) → ((x : A) → u (g x) ≡ m (v x)) → (xs : List A) → map u (map g xs) ≡ map m (map v xs)
map_through u v g m h [] = refl
map_through u v g m h (x ∷ xs) = ap₂ (λ (r : Row) (rs : List Row). r ∷ rs) (h x) (map_through u v g m h xs)

flat_through : {A : Type 0} (u v : A → Row) (g : A → A → A) (m : Row → Row → Row) → ((k x : A) → u (g k x) ≡ m (v k) (u x)) → (ks xs : List A)
    → map u (flat_map (λ k. map (g k) xs) ks) ≡ flat_map (λ k. map (m k) (map u xs)) (map v ks)
flat_through u v g m h [] xs = refl
flat_through u v g m h (k ∷ ks) xs =
    map-append u (map (g k) xs) (flat_map (λ k. map (g k) xs) ks)
    ∙ ap₂ (λ (rs ss : List Row). rs ++ ss) (map_through u u (g k) (m (v k)) (h k) xs) (flat_through u v g m h ks xs)

-- ---- rows by trees
abbrev pub cut_row : ℕ → Cuts → Row
cut_row c k = canonical_sequence (node c k.kept) ∷ codes k.cut

abbrev pub tree_splits : Tree → List Row
tree_splits t = map (cut_row t.colour) (cuts t.below)

abbrev pub piece_row : ℕ → Pieces → Row
piece_row c p = canonical_sequence (node 0 (forest p.hung)) ∷ (canonical_sequence (node c p.joined) ∷ codes p.parts)

abbrev pub tree_parts : Tree → List Row
tree_parts t = map (piece_row t.colour) (pieces t.below)

split_rows_by : (t : Tree) → map split_row (map split.codes_of (map (split.rooted t.colour) (cuts t.below))) ≡ tree_splits t
split_rows_by t = three_maps split_row split.codes_of (split.rooted t.colour) (cuts t.below)

part_rows_by : (t : Tree) → map part_row (map part.codes_of (map (part.rooted t.colour) (pieces t.below))) ≡ tree_parts t
part_rows_by t = three_maps part_row part.codes_of (part.rooted t.colour) (pieces t.below)

pub split_rows_at : (t : Tree) (s : Code) → tree_of s ≡ t → split_rows s ≡ tree_splits t
split_rows_at t s e = split_rows_by (tree_of s) ∙ ap tree_splits e

pub part_rows_at : (t : Tree) (s : Code) → tree_of s ≡ t → part_rows s ≡ tree_parts t
part_rows_at t s e = part_rows_by (tree_of s) ∙ ap tree_parts e

keeps : (c d : ℕ) (k s : Cuts) → cut_row c (keep d k s) ≡ made Keep (cut_row d k) (cut_row c s)
keeps c d k s = ap₂ (λ (h : Code) (r : Row). h ∷ r) (sym (attached_is c d k.kept s.kept)) (codes_append k.cut s.cut)

joins : (c d : ℕ) (k p : Pieces) → piece_row c (keep_edge d k p) ≡ made Join (piece_row d k) (piece_row c p)
joins c d k p =
    ap₂ (λ (h : Code) (r : Row). h ∷ r) (sym (merged_is 0 0 k.hung p.hung))
    (ap₂ (λ (h : Code) (r : Row). h ∷ r) (sym (attached_is c d k.joined p.joined)) (codes_append k.parts p.parts))

severs : (c d : ℕ) (k p : Pieces) → piece_row c (cut_edge d k p) ≡ made Sever (piece_row d k) (piece_row c p)
severs c d k p =
    let top = canonical_sequence (node c p.joined) in
    let root = canonical_sequence (node d k.joined) in
    ap₂ (λ (h : Code) (r : Row). h ∷ (top ∷ (root ∷ r))) (sym (attached_is 0 0 (forest k.hung) (forest p.hung))) (codes_append k.parts p.parts)

tree_splits_grow : (c d : ℕ) (kids rest : Forest) → tree_splits (node c (grow d kids rest)) ≡ splits_made (canonical_sequence (node d kids)) (tree_splits (node d kids)) (tree_splits (node c rest))
tree_splits_grow c d kids rest =
    let t : Tree = node d kids in
    map-append (cut_row c) (map (cut_off t) (cuts rest)) (flat_map (λ k. map (keep d k) (cuts rest)) (cuts kids))
    ∙ ap₂ (λ (rs ss : List Row). rs ++ ss)
    (map_through (cut_row c) (cut_row c) (cut_off t) (made CutOff (canonical_sequence t ∷ [])) (λ _. refl) (cuts rest))
    (flat_through (cut_row c) (cut_row d) (keep d) (made Keep) (keeps c d) (cuts kids) (cuts rest))

tree_parts_grow : (c d : ℕ) (kids rest : Forest) → tree_parts (node c (grow d kids rest)) ≡ parts_made (tree_parts (node d kids)) (tree_parts (node c rest))
tree_parts_grow c d kids rest =
    map-append (piece_row c) (flat_map (λ k. map (keep_edge d k) (pieces rest)) (pieces kids)) (flat_map (λ k. map (cut_edge d k) (pieces rest)) (pieces kids))
    ∙ ap₂ (λ (rs ss : List Row). rs ++ ss)
    (flat_through (piece_row c) (piece_row d) (keep_edge d) (made Join) (joins c d) (pieces kids) (pieces rest))
    (flat_through (piece_row c) (piece_row d) (cut_edge d) (made Sever) (severs c d) (pieces kids) (pieces rest))

-- ---- rows by codes
-- of a code, its first child and the tree without it
pub record ByFirst (s x : Code) : Type 0 where
  pub splits : split_rows s ≡ splits_made x (split_rows x) (split_rows (without_first s))
  pub parts : part_rows s ≡ parts_made (part_rows x) (part_rows (without_first s))
  pub shorter : length (without_first s) < length s

by_first_of : (c d : ℕ) (kids rest : Forest) → IsCanonical (node c (grow d kids rest)) → ByFirst (level_sequence (node c (grow d kids rest))) (canonical_sequence (node d kids))
by_first_of c d kids rest h =
    let b = both_sorted c d kids rest h in
    let s = level_sequence (node c (grow d kids rest)) in
    let x = canonical_sequence (node d kids) in
    let ex : tree_of x ≡ node d kids = tree_of-level_sequence (canonical_of (node d kids)) ∙ ap (node d) b.kids_sorted in
    let er : tree_of (without_first s) ≡ node c rest =
    ap tree_of (without_first_is c d kids rest) ∙ tree_of-level_sequence (canonical_of (node c rest)) ∙ ap (node c) b.rest_sorted in
    record {
      splits = split_rows_at (node c (grow d kids rest)) s (tree_of-level_sequence (node c (grow d kids rest))) ∙ tree_splits_grow c d kids rest
          ∙ ap₂ (splits_made x) (sym (split_rows_at (node d kids) x ex)) (sym (split_rows_at (node c rest) (without_first s) er));
      parts = part_rows_at (node c (grow d kids rest)) s (tree_of-level_sequence (node c (grow d kids rest))) ∙ tree_parts_grow c d kids rest
          ∙ ap₂ parts_made (sym (part_rows_at (node d kids) x ex)) (sym (part_rows_at (node c rest) (without_first s) er));
      shorter = without_first_shorter c d kids rest;
    }

by_first_at : (c : ℕ) (f : Forest) (s x : Code) → IsCanonical (node c f) → level_sequence (node c f) ≡ s → slice_get (map canonical_sequence (trees f)) 0 ≡ Some x → ByFirst s x
by_first_at c none s x h e k = let no : None ≡ Some x = k in cc
by_first_at c (grow d kids rest) s x h e k =
    let k' : canonical_sequence (node d kids) ≡ x = cc in
    subst (λ y. ByFirst s y) k' (subst (λ r. ByFirst r (canonical_sequence (node d kids))) e (by_first_of c d kids rest h))

pub by_first : (s x : Code) → IsCode s → slice_get (child_codes s) 0 ≡ Some x → ByFirst s x
by_first s x h k = by_first_at (tree_of s).colour (tree_of s).below s x (code_canonical s h) (code_sequence s h) k

-- ---- a tree of one node
pub record OfLeaf (s : Code) : Type 0 where
  pub splits : split_rows s ≡ (s ∷ []) ∷ []
  pub parts : part_rows s ≡ (((1, 0) ∷ []) ∷ (s ∷ [])) ∷ []

of_leaf_at : (c : ℕ) (f : Forest) (s : Code) → level_sequence (node c f) ≡ s → length (map canonical_sequence (trees f)) ≡ 0 → OfLeaf s
of_leaf_at c none s e k =
    let z = level_sequence (node c none) in
    subst OfLeaf e (record { splits = split_rows_at (node c none) z (tree_of-level_sequence (node c none)); parts = part_rows_at (node c none) z (tree_of-level_sequence (node c none)) })
of_leaf_at c (grow d kids rest) s e k = absurd (omega arith)

pub of_leaf : (s : Code) → IsCode s → length (child_codes s) ≡ 0 → OfLeaf s
of_leaf s h k = of_leaf_at (tree_of s).colour (tree_of s).below s (code_sequence s h) k

-- ---- the tree without its first child is smaller
shorter_at : (c : ℕ) (f : Forest) (s : Code) → level_sequence (node c f) ≡ s → 2 ≤ length s → length (without_first s) < length s
shorter_at c none s e h = absurd (omega (arith, ap length e))
shorter_at c (grow d kids rest) s e h = subst (λ (r : Code). length (without_first r) < length r) e (without_first_shorter c d kids rest)

pub shorter : (s : Code) → IsCode s → 2 ≤ length s → length (without_first s) < length s
shorter s h k = shorter_at (tree_of s).colour (tree_of s).below s (code_sequence s h) k
