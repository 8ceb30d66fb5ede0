-- Reading what was written.
--
--   ReadsBack       == the words of levels and of colours of a level sequence are read as the tree that it describes
--   PlainReadsBack  == so is the word of levels alone, where each colour is 0
--   CodeReadsBack   == what is read from the words of a code has this code
--
-- Source: this project.
use Rattle.std.specs.Prelude.{◌≡◌, ℕ, List, Some, None, Ok, IsTrue, false}
use Rattle.bs_tree.specs.Tree.{Tree}
use Rattle.bs_tree.specs.Canonical.{canonical_sequence}
use Rattle.bs_tree.specs.Code.{tree_of, is_level_sequence, IsCode}
use Rattle.bs_levels.specs.Levels.{tree_of_words}
use Rattle.bs_levels.specs.TreeText.{levels_text, colours_text, has_colours}

abbrev pub ReadsBack : Type 0
ReadsBack = (s : List (ℕ × ℕ)) → IsTrue (is_level_sequence s) → tree_of_words (levels_text s) (Some (colours_text s)) ≡ Ok (tree_of s)

abbrev pub PlainReadsBack : Type 0
PlainReadsBack =
    (s : List (ℕ × ℕ)) → IsTrue (is_level_sequence s) → has_colours s ≡ false → tree_of_words (levels_text s) None ≡ Ok (tree_of s)

abbrev pub CodeReadsBack : Type 0
CodeReadsBack =
    (s : List (ℕ × ℕ)) → IsCode s → (t : Tree) × (tree_of_words (levels_text s) (Some (colours_text s)) ≡ Ok t) × (canonical_sequence t ≡ s)
