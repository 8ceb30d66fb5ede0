-- What is made of two trees by number, and what is remembered of trees, as private functions speak of it.
--
--   Extends cs cs'       == each number of cs is one of cs', with the same code
--   entry table a b      == the number at row a and place b of a table, 0 where there is none
--   OneSet old new a b v == a table is another one but for v at row a and place b
--   Makes f cs a b n     == a and b are numbers of codes x and y, and n is a number of f x y
--   Remembers f cs table == at each entry of a table that is not 0, one less is made so of its row and place
--   HasRows f cs n rows  == n is the number of a code x, and the rows are those of f x
--   HoldsRows f cs lists == so are the rows at each number where there are any
--
-- Source: this project.
use Rattle.std.specs.Prelude.{◌≡◌, ℕ, ◌-◌, ◌<◌, ◌⊎◌, List, [], length, slice_index_or}
use Rattle.bs_catalog.specs.Shelf.{Code, Numbers, AreRows, rows_at}

abbrev pub Extends : List Code → List Code → Type 0
Extends cs cs' = (n : ℕ) (code : Code) → Numbers cs n code → Numbers cs' n code

-- ---- a table of numbers
abbrev pub entry : List (List ℕ) → ℕ → ℕ → ℕ
entry table a b = slice_index_or (slice_index_or table a []) b 0

abbrev pub OneSet : List (List ℕ) → List (List ℕ) → ℕ → ℕ → ℕ → Type 0
OneSet old new a b v = (i j : ℕ) → 0 < entry new i j → (entry new i j ≡ entry old i j) ⊎ ((i ≡ a) × (j ≡ b) × (entry new i j ≡ v))

pub record Makes (f : Code → Code → Code) (cs : List Code) (a b n : ℕ) : Type 0 where
  pub first : Code
  pub second : Code
  pub is_first : Numbers cs a first
  pub is_second : Numbers cs b second
  pub value : Numbers cs n (f first second)

abbrev pub Remembers : (Code → Code → Code) → List Code → List (List ℕ) → Type 0
Remembers f cs table = (a b : ℕ) → 0 < entry table a b → Makes f cs a b (entry table a b - 1)

-- ---- lists of rows
pub record HasRows (f : Code → List (List Code)) (cs : List Code) (n : ℕ) (rows : List (List ℕ)) : Type 0 where
  pub code : Code
  pub is_code : Numbers cs n code
  pub rows_are : AreRows cs rows (f code)

abbrev pub HoldsRows : (Code → List (List Code)) → List Code → List (List (List ℕ)) → Type 0
HoldsRows f cs lists = (n : ℕ) → 0 < length (rows_at lists n) → HasRows f cs n (rows_at lists n)
