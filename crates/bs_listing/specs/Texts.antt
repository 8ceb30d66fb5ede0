-- Texts of trees and lines of them, as private functions speak of them.
--
--   spaced code       == a space and the text of a tree
--   framed code       == that, and a bar behind it, as the texts of trees are kept
--   head_text code    == the text of a tree with a bar behind it, which begins a line
--   HasText cs n text == a text is the framed one of the tree of number n
--   HoldsTexts cs ts  == so is the text at each place, for as many numbers as there are texts
--   item_line row     == the line of a row of trees: the first, and behind a bar the others
--   IsFront a b       == a text begins with another
--
-- Source: this project.
use Rattle.std.specs.Prelude.{◌≡◌, ℕ, ◌<◌, List, [], ◌∷◌, ◌++◌, length, codes, slice_index_or}
use Rattle.bs_levels.specs.TreeText.{tree_text}
use Rattle.bs_reply.specs.Lines.{part_line}
use Rattle.bs_catalog.specs.Shelf.{Code, Numbers}

abbrev pub spaced : Code → List ℕ
spaced code = codes " " ++ tree_text code

abbrev pub framed : Code → List ℕ
framed code = spaced code ++ codes " |"

abbrev pub head_text : Code → List ℕ
head_text code = tree_text code ++ codes " |"

pub record HasText (cs : List Code) (n : ℕ) (text : List ℕ) : Type 0 where
  pub code : Code
  pub is_code : Numbers cs n code
  pub text_is : text ≡ framed code

abbrev pub HoldsTexts : List Code → List (List ℕ) → Type 0
HoldsTexts cs texts = (n : ℕ) → n < length texts → HasText cs n (slice_index_or texts n [])

abbrev pub item_line : List Code → List ℕ
item_line [] = []
item_line (code ∷ others) = part_line code others

pub record IsFront (a b : List ℕ) : Type 0 where
  pub rest : List ℕ
  pub is : b ≡ a ++ rest
