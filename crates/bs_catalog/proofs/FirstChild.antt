-- A code, its first child, and the tree without it.
use Rattle.std.proofs.Common.{◌≡◌, ℕ, ◌<◌, ◌≤◌, List, [], ◌∷◌, ◌++◌, map, drop, length, leb, subst, true, false, refl, ap, ap₂, sym, ◌∙◌, arith}
use Rattle.std.specs.List.{AllByRecursion}
use Rattle.std.proofs.lemmas.Bool.{le-leb, and_from}
use Rattle.std.proofs.lemmas.Cmp.{nat_cmp_total, tied_itself}
use Rattle.bs_tree.specs.declared.TheConstants.{MAX_NODES, COLOURS}
use Rattle.bs_tree.specs.Tree.{Forest, none, grow, Tree, order, trees}
use Rattle.bs_tree.specs.Canonical.{level_sequence, level_sequence_at, insert, sorted, is_above, canonical_sequence}
use Rattle.bs_tree.specs.Code.{tree_of, IsCode, child_codes, has_valid_levels, is_level_sequence}
use Rattle.bs_tree.proofs.Levels.{levels_valid, colours_all}
use Rattle.bs_tree.specs.Subtrees.{first_count}
use Rattle.bs_tree.specs.SortingLaws.{by_cases, IsUpto, upto_sorted, IsCanonical, nodes-sorted}
use Rattle.bs_tree.specs.SubtreeLaws.{code_sequence, tree_of-level_sequence, first_count-is, drop_kids, length-level_sequence_at}
use Rattle.bs_part.specs.Partition.{node}
use Rattle.bs_catalog.specs.Making.{without_first, later_pairs}

pub record BothSorted (kids rest : Forest) : Type 0 where
  pub kids_sorted : sorted kids ≡ kids
  pub rest_sorted : sorted rest ≡ rest

not_above : (c : ℕ) (kids : Forest) → is_above (node c kids) (node c (sorted kids)) ≡ false
unfolding IsUpto
not_above c kids = rw (tied_itself nat_cmp_total c) (upto_sorted kids)

parts_sorted : (c : ℕ) (kids rest z : Forest) → sorted rest ≡ z → insert (node c (sorted kids)) z ≡ grow c kids rest → BothSorted kids rest
parts_sorted c kids rest none e h = record { kids_sorted = cc; rest_sorted = cc }
parts_sorted c kids rest (grow d below more) e h =
    let t : Tree = node c (sorted kids) in
    by_cases (is_above (node d below) t)
    (λ k.
    let h' : grow d below (insert t more) ≡ grow c kids rest = rw k at h in
    let e1 : c ≡ d = cc in
    let e2 : kids ≡ below = cc in
    let no : false ≡ true = sym (not_above c kids) ∙ ap₂ (λ (x : ℕ) (y : Forest). is_above (node x y) t) e1 e2 ∙ k in
    cc)
    (λ k. let h' : grow c (sorted kids) (grow d below more) ≡ grow c kids rest = rw k at h in record { kids_sorted = cc; rest_sorted = cc })

pub both_sorted : (c d : ℕ) (kids rest : Forest) → IsCanonical (node c (grow d kids rest)) → BothSorted kids rest
both_sorted c d kids rest h = parts_sorted d kids rest (sorted rest) refl (ap (λ (t : Tree). t.below) h)

pub without_first_is : (c d : ℕ) (kids rest : Forest) → without_first (level_sequence (node c (grow d kids rest))) ≡ canonical_sequence (node c rest)
unfolding without_first
without_first_is c d kids rest =
    let s = level_sequence (node c (grow d kids rest)) in
    let below = level_sequence_at 2 (grow d kids rest) in
    let e : drop (first_count below) below ≡ level_sequence_at 2 rest =
    ap (λ (n : ℕ). drop n below) (first_count-is 2 d kids rest) ∙ drop_kids 3 kids (level_sequence_at 2 rest) in
    ap (λ (ps : List (ℕ × ℕ)). canonical_sequence (tree_of ((1, c) ∷ ps))) e ∙ ap canonical_sequence (tree_of-level_sequence (node c rest))

pub without_first_shorter : (c d : ℕ) (kids rest : Forest) → length (without_first (level_sequence (node c (grow d kids rest)))) < length (level_sequence (node c (grow d kids rest)))
without_first_shorter c d kids rest =
    omega (arith, ap length (without_first_is c d kids rest), length-level_sequence_at 2 (sorted rest), nodes-sorted rest, length-level_sequence_at 2 (grow d kids rest))

-- ---- the pairs without those of the first child are a level sequence
all_behind : {X : Type 0} (P : X → Type 0) (xs ys : List X) → AllByRecursion P (xs ++ ys) → AllByRecursion P ys
all_behind P [] ys h = h
all_behind P (x ∷ xs) ys h = all_behind P xs ys h.1

abbrev pub AreColoured : List (ℕ × ℕ) → Type 0
AreColoured = AllByRecursion (λ (p : ℕ × ℕ). p.1 < COLOURS)

later_is : (c d : ℕ) (kids rest : Forest) → later_pairs (level_sequence (node c (grow d kids rest))) ≡ level_sequence (node c rest)
later_is c d kids rest =
    let below = level_sequence_at 2 (grow d kids rest) in
    ap (λ (ps : List (ℕ × ℕ)). (1, c) ∷ ps) (ap (λ (n : ℕ). drop n below) (first_count-is 2 d kids rest) ∙ drop_kids 3 kids (level_sequence_at 2 rest))

is_sequence : (t : Tree) → order t ≤ MAX_NODES → AreColoured (level_sequence t) → is_level_sequence (level_sequence t) ≡ true
is_sequence t h k =
    let s = level_sequence t in
    let short : length s ≤ MAX_NODES = omega (arith, h, length-level_sequence_at 2 t.below) in
    and_from (leb (length s) MAX_NODES) _ (le-leb (length s) MAX_NODES short) (and_from (has_valid_levels s) _ (levels_valid t) (colours_all s k))

later_sequence : (c d : ℕ) (kids rest : Forest) → length (level_sequence (node c (grow d kids rest))) ≤ MAX_NODES → AreColoured (level_sequence (node c (grow d kids rest)))
    → is_level_sequence (later_pairs (level_sequence (node c (grow d kids rest)))) ≡ true
later_sequence c d kids rest h k =
    let short : order (node c rest) ≤ MAX_NODES = omega (arith, h, length-level_sequence_at 2 (grow d kids rest)) in
    let coloured : AreColoured (level_sequence (node c rest)) = (k.0, all_behind (λ (p : ℕ × ℕ). p.1 < COLOURS) (level_sequence_at 3 kids) (level_sequence_at 2 rest) k.1.1) in
    subst (λ (ps : List (ℕ × ℕ)). is_level_sequence ps ≡ true) (sym (later_is c d kids rest)) (is_sequence (node c rest) short coloured)

pub record IsParted (s : List (ℕ × ℕ)) : Type 0 where
  pub two : 2 ≤ length s
  pub later : is_level_sequence (later_pairs s) ≡ true

parted_at : (c : ℕ) (f : Forest) (s : List (ℕ × ℕ)) → level_sequence (node c f) ≡ s → 0 < length (map canonical_sequence (trees f)) → length s ≤ MAX_NODES → AreColoured s → IsParted s
parted_at c none s e h m k = absurd (omega (arith, h))
parted_at c (grow d kids rest) s e h m k =
    let r = level_sequence (node c (grow d kids rest)) in
    subst IsParted e (record {
      two = omega arith;
      later = later_sequence c d kids rest (subst (λ (ps : List (ℕ × ℕ)). length ps ≤ MAX_NODES) (sym e) m) (subst AreColoured (sym e) k);
    })

pub parted : (s : List (ℕ × ℕ)) → IsCode s → 0 < length (child_codes s) → IsParted s
parted s h k = parted_at (tree_of s).colour (tree_of s).below s (code_sequence s h) k h.small h.colours
