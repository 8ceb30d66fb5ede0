-- Rows gathered by their first tree and by the forest behind it.
--
--   code_at cs n          == the code with a number
--   IsKeyOf cs row key    == a row begins with the tree of the key's first number, and the trees behind it are, in some order, the children
--                            of the root of the tree of the other: so a forest has a number, whatever its order
--   AreKeys cs rows keys  == so one after the other
--   Shows cs all place key == so is the row at this place of a list
--   expanded gs           == the keys of gathered rows, each as often as it comes
--   AreGathered cs all rows gs == these are the keys of the rows, in some order; each comes, and is shown by one of all rows
--
-- Source: this project. The terms of a sum may be gathered in any order.
use Rattle.std.specs.Prelude.{◌≡◌, ℕ, ◌<◌, List, [], ◌∷◌, ◌++◌, map, length, replicate, Some, slice_get, slice_index_or}
use Rattle.std.specs.List.{AllByRecursion}
use Rattle.std.specs.List.Sorted.{IsPermutation}
use Rattle.bs_tree.specs.Code.{child_codes}
use Rattle.bs_catalog.specs.Shelf.{Code}
use Rattle.bs_catalog.specs.declared.gathering.Gathered.{Gathered}

abbrev pub code_at : List Code → ℕ → Code
code_at cs n = slice_index_or cs n []

pub record IsKeyOf (cs : List Code) (row : List ℕ) (key : ℕ × ℕ) : Type 0 where
  pub rest : List ℕ
  pub is : row ≡ key.0 ∷ rest
  pub within : AllByRecursion (λ n. n < length cs) rest
  pub known : key.1 < length cs
  pub forest : IsPermutation (map (code_at cs) rest) (child_codes (code_at cs key.1))

abbrev pub AreKeys : List Code → List (List ℕ) → List (ℕ × ℕ) → Type 0
AreKeys cs [] [] = Unit {0}
AreKeys cs [] (key ∷ keys) = ⊥
AreKeys cs (row ∷ rows) [] = ⊥
AreKeys cs (row ∷ rows) (key ∷ keys) = IsKeyOf cs row key × AreKeys cs rows keys

pub record Shows (cs : List Code) (all : List (List ℕ)) (place : ℕ) (key : ℕ × ℕ) : Type 0 where
  pub row : List ℕ
  pub is : slice_get all place ≡ Some row
  pub key_is : IsKeyOf cs row key

abbrev pub gathered_key : Gathered → ℕ × ℕ
gathered_key g = (g.first, g.forest)

abbrev pub expanded : List Gathered → List (ℕ × ℕ)
expanded [] = []
expanded (g ∷ gs) = replicate g.times (gathered_key g) ++ expanded gs

pub record AreGathered (cs : List Code) (all rows : List (List ℕ)) (gs : List Gathered) : Type 0 where
  pub keys : List (ℕ × ℕ)
  pub each : AreKeys cs rows keys
  pub same : IsPermutation keys (expanded gs)
  pub some : AllByRecursion (λ g. 0 < g.times) gs
  pub shown : AllByRecursion (λ g. Shows cs all g.row (gathered_key g)) gs
