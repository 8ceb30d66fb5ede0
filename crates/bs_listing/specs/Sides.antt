-- Splittings and partitions of the first child of a tree, and of the tree without it, of which lines of the tree are made. Private
-- functions speak of them.
--
--   Kept                == a splitting that keeps the root: the tree that is kept, and those that are cut off
--   Parted              == a partition: its skeleton, the part of the root, and the other parts
--   kept_row, parted_row == their rows
--   kept_items code     == the splittings of the tree of a code that keep the root
--   parted_items code   == its partitions
--   AreHeads cs ns ks   == the numbers are those of what is kept, one for each splitting
--   AreCrowns cs cs' ps == the numbers are those of the skeletons and of the roots' parts, a pair for each partition
--   AreSplits after cs heads texts ks == so are the heads, and each text is that of the trees that are cut off, with an end behind it
--   AreParts after cs crowns texts ps == likewise of partitions, with the texts of the parts but the first
--   crown_of row        == the first two numbers of a row
--   line_end            == the end of a line
--
-- Source: this project.
use Rattle.std.specs.Prelude.{◌≡◌, ℕ, List, [], ◌∷◌, ◌++◌, map, codes, slice_index}
use Rattle.bs_tree.specs.Tree.{forest}
use Rattle.bs_tree.specs.Canonical.{canonical_of, level_sequence, canonical_sequence}
use Rattle.bs_tree.specs.Code.{tree_of}
use Rattle.bs_split.specs.Splitting.{SplitCodes, split_codes}
use Rattle.bs_part.specs.Partition.{Pieces, node, pieces, tail}
use Rattle.bs_reply.specs.Lines.{trees_text}
use Rattle.bs_catalog.specs.Shelf.{Code, Numbers, kept_code}
use Rattle.bs_listing.specs.declared.sides.Crown.{Crown}

pub record Kept : Type 0 where
  pub head : Code
  pub cut : List Code

abbrev pub kept_row : Kept → List Code
kept_row k = k.head ∷ k.cut

abbrev pub kept_item : SplitCodes → Kept
kept_item s = record { head = kept_code s.kept; cut = s.forest }

abbrev pub kept_items : Code → List Kept
kept_items code = map kept_item (tail (split_codes code))

pub record Parted : Type 0 where
  pub skeleton : Code
  pub root : Code
  pub others : List Code

abbrev pub parted_row : Parted → List Code
parted_row p = p.skeleton ∷ (p.root ∷ p.others)

abbrev pub parted_item : ℕ → Pieces → Parted
parted_item c p = record {
  skeleton = canonical_sequence (node 0 (forest p.hung));
  root = canonical_sequence (node c p.joined);
  others = map level_sequence (map canonical_of p.parts);
}

abbrev pub parted_items : Code → List Parted
parted_items code = map (parted_item (tree_of code).colour) (pieces (tree_of code).below)

-- ---- by numbers and texts
abbrev pub AreHeads : List Code → List ℕ → List Kept → Type 0
AreHeads cs [] [] = Unit {0}
AreHeads cs [] (k ∷ ks) = ⊥
AreHeads cs (n ∷ ns) [] = ⊥
AreHeads cs (n ∷ ns) (k ∷ ks) = Numbers cs n k.head × AreHeads cs ns ks

abbrev pub AreCrowns : List Code → List Crown → List Parted → Type 0
AreCrowns cs [] [] = Unit {0}
AreCrowns cs [] (p ∷ ps) = ⊥
AreCrowns cs (c ∷ crowns) [] = ⊥
AreCrowns cs (c ∷ crowns) (p ∷ ps) = (Numbers cs c.skeleton p.skeleton × Numbers cs c.root p.root) × AreCrowns cs crowns ps

abbrev pub crown_of : List ℕ → Crown
crown_of row = record { skeleton = slice_index row 0; root = slice_index row 1 }

abbrev pub cut_text : List ℕ → Kept → List ℕ
cut_text after k = trees_text k.cut ++ after

abbrev pub others_text : List ℕ → Parted → List ℕ
others_text after p = trees_text p.others ++ after

pub record AreSplits (after : List ℕ) (cs : List Code) (heads : List ℕ) (texts : List (List ℕ)) (ks : List Kept) : Type 0 where
  pub heads_are : AreHeads cs heads ks
  pub texts_are : texts ≡ map (cut_text after) ks

pub record AreParts (after : List ℕ) (cs : List Code) (crowns : List Crown) (texts : List (List ℕ)) (ps : List Parted) : Type 0 where
  pub crowns_are : AreCrowns cs crowns ps
  pub texts_are : texts ≡ map (others_text after) ps

abbrev pub line_end : List ℕ
line_end = codes "\n"
