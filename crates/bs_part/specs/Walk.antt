-- The walk over the partitions by one word of keep and cut, as private functions speak of it.
--
--   words_from w         == the words of this length from w on, in the order of words
--   last_kept w          == the place of the last keep, from 0
--   cut_after i w        == the word with cut at place i and keep behind it
--   letters code kept    == of one letter for each node, those of the nodes below the root
--   skeleton_of t w      == the skeleton of the item of a word, its children as they come
--   item_by code w       == the item of a word, with codes
--   part_pairs ps w      == of pairs (level, colour) and their letters: the codes of the parts whose root's edge is cut
--   hung_pairs ds ps w   == the skeleton's pairs of these parts; ds has, for each level, that of the last node's part in the skeleton
--   last_place i last w  == the place of the last keep, or last; the first letter has place i
--   left done code kept  == the items that are left
--
-- Source: this project's own.
use Rattle.std.specs.Prelude.{ℕ, zero, suc, ◌-◌, List, [], ◌∷◌, ◌++◌, map, take, drop, length, replicate, get_or, set, Bool, true, false, cond, Option, Some, None, option_map}
use Rattle.bs_tree.specs.Tree.{Tree, forest}
use Rattle.bs_tree.specs.Canonical.{canonical_sequence}
use Rattle.bs_tree.specs.Code.{tree_of}
use Rattle.bs_tree.specs.Subtrees.{tree_at}
use Rattle.bs_tree.specs.Pruned.{pruned}
use Rattle.bs_part.specs.Partition.{node, rooted, PartCodes, codes_of}
use Rattle.bs_part.specs.Words.{words, pieces_by}

-- ---- words
abbrev pub words_from : List Bool → List (List Bool)
words_from [] = [] ∷ []
words_from (true ∷ w) = map (λ v. true ∷ v) (words_from w) ++ map (λ v. false ∷ v) (words (length w))
words_from (false ∷ w) = map (λ v. false ∷ v) (words_from w)

abbrev pub or_else : Option ℕ → Option ℕ → Option ℕ
or_else None other = other
or_else (Some i) other = Some i

abbrev pub last_kept : List Bool → Option ℕ
last_kept [] = None
last_kept (b ∷ w) = or_else (option_map (λ i. suc i) (last_kept w)) (cond b (Some 0) None)

abbrev pub cut_after : ℕ → List Bool → List Bool
cut_after i [] = []
cut_after zero (b ∷ w) = false ∷ replicate (length w) true
cut_after (suc i) (b ∷ w) = b ∷ cut_after i w

-- ---- the item of a word
abbrev pub letters : List (ℕ × ℕ) → List Bool → List Bool
letters code kept = take (length code - 1) (drop 1 kept)

abbrev pub skeleton_of : Tree → List Bool → Tree
skeleton_of t w = node 0 (forest (pieces_by t.below w).hung)

abbrev pub item_by : List (ℕ × ℕ) → List Bool → PartCodes
item_by code w = let t = tree_of code in codes_of (rooted t.colour (pieces_by t.below w))

-- ---- over pairs
abbrev pub part_pairs : List (ℕ × ℕ) → List Bool → List (List (ℕ × ℕ))
part_pairs [] w = []
part_pairs (p ∷ ps) [] = []
part_pairs (p ∷ ps) (true ∷ w) = part_pairs ps w
part_pairs (p ∷ ps) (false ∷ w) = canonical_sequence (pruned (tree_at (p ∷ ps) 0) w) ∷ part_pairs ps w

abbrev pub hung_pairs : List ℕ → List (ℕ × ℕ) → List Bool → List (ℕ × ℕ)
hung_pairs ds [] w = []
hung_pairs ds (p ∷ ps) [] = []
hung_pairs ds (p ∷ ps) (true ∷ w) = hung_pairs (set ds p.0 (get_or ds (p.0 - 1) 0)) ps w
hung_pairs ds (p ∷ ps) (false ∷ w) = let here = suc (get_or ds (p.0 - 1) 0) in (here, 0) ∷ hung_pairs (set ds p.0 here) ps w

abbrev pub last_place : ℕ → Option ℕ → List Bool → Option ℕ
last_place place last [] = last
last_place place last (b ∷ w) = last_place (suc place) (cond b (Some place) last) w

-- ---- what is left
abbrev pub left : Bool → List (ℕ × ℕ) → List Bool → List PartCodes
left true code kept = []
left false code kept = map (item_by code) (words_from (letters code kept))
