-- What holds of the definitions alone.
--
--   SaysTheOrder  == the order in the line with a tree's numbers is the number of its nodes
--   NumbersAreReadAlike == of every word, the number in a list of levels or of colours and the number in a fraction are the same, or both are none
--
-- Source: this project.
use Rattle.std.specs.Prelude.{◌≡◌, ◌++◌, ℕ, List, codes, decimal}
use Rattle.bs_tree.specs.Tree.{Tree, order}
use Rattle.bs_tree.specs.Canonical.{canonical_sequence}
use Rattle.bs_frac.specs.Text.{number_within as number_of_fraction}
use Rattle.bs_levels.specs.Words.{number_within as number_of_levels}
use Rattle.bs_levels.specs.TreeText.{tree_text}
use Rattle.bs_reply.specs.Lines.{info_line}

abbrev pub SaysTheOrder : Type 0
SaysTheOrder = (t : Tree) (symmetry density alpha : ℕ) → info_line (canonical_sequence t) symmetry density alpha
    ≡ codes "info " ++ tree_text (canonical_sequence t) ++ codes " order " ++ decimal (order t) ++ codes " symmetry " ++ decimal symmetry
    ++ codes " density " ++ decimal density ++ codes " alpha " ++ decimal alpha ++ codes "\n"

abbrev pub NumbersAreReadAlike : Type 0
NumbersAreReadAlike = (limit : ℕ) (word : List ℕ) → number_of_levels limit word ≡ number_of_fraction limit word
