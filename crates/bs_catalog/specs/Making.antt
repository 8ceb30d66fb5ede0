-- How a tree is made of two trees, and the rows of a tree of those of its first child and of those of the tree without that child.
--
--   attached a b     == the code of the tree of a with the tree of b as one more child of its root: the Butcher product of the two
--   merged a b       == the code of the tree of a with all children of b's root as well: the merging product, by which roots become one
--   without_first s  == the code of a tree without its first child
--   AreHalves cs s child rest == these are numbers of the first child of s and of s without it: s is the second with the first attached
--   made way k r     == the row that is made of a row k of the first child and a row r of the tree without it
--   all_made way ks rs == those of each row of ks with each of rs
--   splits_made x ks rs == the splittings that keep the root: x cut off from each of rs, then what is made of each of ks
--   parts_made ks rs == the partitions: those that keep the edge above the first child, then those that cut it
--
-- Source: this project. That these rows are the splittings and the partitions is a law.
use Rattle.std.specs.Prelude.{◌≡◌, ℕ, suc, List, [], ◌∷◌, ◌++◌, map, take, drop, Some, slice_get}
use Rattle.std.specs.List.{flat_map}
use Rattle.bs_tree.specs.Canonical.{canonical_sequence}
use Rattle.bs_tree.specs.Code.{tree_of, deeper, child_codes}
use Rattle.bs_tree.specs.Subtrees.{first_count}
use Rattle.bs_catalog.specs.Shelf.{Code, Numbers}
use Rattle.bs_catalog.specs.declared.way.Way.{Way}
use Rattle.bs_catalog.specs.declared.way.Way.TheVariants.{CutOff, Keep, Join, Sever}

-- ---- codes
abbrev pub attached_pairs : Code → Code → List (ℕ × ℕ)
attached_pairs a b = take 1 a ++ (deeper b ++ drop 1 a)

unfoldable pub attached : Code → Code → Code
attached a b = canonical_sequence (tree_of (attached_pairs a b))

abbrev pub merged_pairs : Code → Code → List (ℕ × ℕ)
merged_pairs a b = take 1 a ++ (drop 1 b ++ drop 1 a)

unfoldable pub merged : Code → Code → Code
merged a b = canonical_sequence (tree_of (merged_pairs a b))

abbrev pub later_pairs : Code → List (ℕ × ℕ)
later_pairs s = take 1 s ++ drop (suc (first_count (drop 1 s))) s

unfoldable pub without_first : Code → Code
without_first s = canonical_sequence (tree_of (later_pairs s))

pub record AreHalves (cs : List Code) (s : Code) (child rest : ℕ) : Type 0 where
  pub first : Code
  pub is_first : slice_get (child_codes s) 0 ≡ Some first
  pub child_is : Numbers cs child first
  pub rest_is : Numbers cs rest (without_first s)

-- ---- rows
abbrev pub made : Way → List Code → List Code → List Code
made CutOff k [] = []
made CutOff k (h ∷ r) = h ∷ (k ++ r)
made Keep [] r = []
made Keep (g ∷ k) [] = []
made Keep (g ∷ k) (h ∷ r) = attached h g ∷ (k ++ r)
made Join [] r = []
made Join (s ∷ []) r = []
made Join (s ∷ (g ∷ k)) [] = []
made Join (s ∷ (g ∷ k)) (u ∷ []) = []
made Join (s ∷ (g ∷ k)) (u ∷ (h ∷ r)) = merged u s ∷ (attached h g ∷ (k ++ r))
made Sever [] r = []
made Sever (s ∷ k) [] = []
made Sever (s ∷ k) (u ∷ []) = []
made Sever (s ∷ k) (u ∷ (h ∷ r)) = attached u s ∷ (h ∷ (k ++ r))

abbrev pub all_made : Way → List (List Code) → List (List Code) → List (List Code)
all_made way ks rs = flat_map (λ k. map (made way k) rs) ks

-- ---- all rows of a tree, of which x is the first child
abbrev pub splits_made : Code → List (List Code) → List (List Code) → List (List Code)
splits_made x ks rs = map (made CutOff (x ∷ [])) rs ++ all_made Keep ks rs

abbrev pub parts_made : List (List Code) → List (List Code) → List (List Code)
parts_made ks rs = all_made Join ks rs ++ all_made Sever ks rs
