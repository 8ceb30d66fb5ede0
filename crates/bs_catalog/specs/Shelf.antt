-- Trees by number, and the lists of their splittings and partitions by the numbers of their trees.
--
--   Shelf                == the codes of the trees, by number; and for each number the rows of its splittings and of its partitions, none where they are not made
--   Numbers cs n code    == n is a number of the code
--   AreNumbers cs row codes == the numbers of a row are numbers of these codes, one after the other
--   AreRows cs rows lists   == the same of each row
--   split_rows code      == the splittings that keep the root: for each the code of what is kept, and those of the trees that are cut off
--   part_rows code       == the partitions: for each the code of the skeleton, and those of the parts
--   rows_at lists n      == the rows of a number
--   HasSplits s n, HasParts s n == the rows of the number are made
--   Grows s s'           == each number of s is one of s', with the same code, and what is made of it stays made
--
-- Source: this project. A list with the splitting that keeps nothing in front is `split_codes`.
use Rattle.std.specs.Prelude.{◌≡◌, ℕ, ◌<◌, List, [], ◌∷◌, map, length, Option, Some, None, slice_get, slice_index_or}
use Rattle.bs_split.specs.Splitting.{SplitCodes, split_codes}
use Rattle.bs_part.specs.Partition.{PartCodes, part_codes, tail}

abbrev pub Code : Type 0
Code = List (ℕ × ℕ)

pub record Shelf : Type 0 where
  pub codes : List Code
  pub splits : List (List (List ℕ))
  pub parts : List (List (List ℕ))

-- ---- numbers
abbrev pub Numbers : List Code → ℕ → Code → Type 0
Numbers cs n code = slice_get cs n ≡ Some code

abbrev pub AreNumbers : List Code → List ℕ → List Code → Type 0
AreNumbers cs [] [] = Unit {0}
AreNumbers cs [] (code ∷ codes) = ⊥
AreNumbers cs (n ∷ ns) [] = ⊥
AreNumbers cs (n ∷ ns) (code ∷ codes) = Numbers cs n code × AreNumbers cs ns codes

abbrev pub AreRows : List Code → List (List ℕ) → List (List Code) → Type 0
AreRows cs [] [] = Unit {0}
AreRows cs [] (codes ∷ lists) = ⊥
AreRows cs (row ∷ rows) [] = ⊥
AreRows cs (row ∷ rows) (codes ∷ lists) = AreNumbers cs row codes × AreRows cs rows lists

-- ---- items as rows
abbrev pub kept_code : Option Code → Code
kept_code None = []
kept_code (Some code) = code

abbrev pub split_row : SplitCodes → List Code
split_row s = kept_code s.kept ∷ s.forest

abbrev pub split_rows : Code → List (List Code)
split_rows code = map split_row (tail (split_codes code))

abbrev pub part_row : PartCodes → List Code
part_row p = p.skeleton ∷ p.parts

abbrev pub part_rows : Code → List (List Code)
part_rows code = map part_row (part_codes code)

-- ---- what is made
abbrev pub rows_at : List (List (List ℕ)) → ℕ → List (List ℕ)
rows_at lists n = slice_index_or lists n []

abbrev pub HasSplits : Shelf → ℕ → Type 0
HasSplits s n = 0 < length (rows_at s.splits n)

abbrev pub HasParts : Shelf → ℕ → Type 0
HasParts s n = 0 < length (rows_at s.parts n)

pub record Grows (s s' : Shelf) : Type 0 where
  pub codes : (n : ℕ) (code : Code) → Numbers s.codes n code → Numbers s'.codes n code
  pub splits : (n : ℕ) → HasSplits s n → HasSplits s' n
  pub parts : (n : ℕ) → HasParts s n → HasParts s' n
