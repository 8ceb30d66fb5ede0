-- Forests by number, and how rows are gathered, as private functions speak of it.
--
--   IsSequence code         == the code is the canonical sequence of a tree
--   AreSequences lists      == so are the codes of each list
--   IsForest cs n codes     == n is the number of a tree whose root of colour 0 has these trees as its children, in whatever order
--   key_of key              == what a row is gathered by
--   HasKeys cs all rows keys == the keys are those of the rows, and each is shown by one of all rows
--   PutsKey cs row place keys keys' == the key of the row, with its place, stands behind the others
--   AreGroups keys gs       == the gathered rows are the keys, equal neighbours as one, each shown by the row of one of its keys
--   groups_at groups n      == what is gathered of the rows of a number
--   HoldsGroups part cs lists groups == so is, at each number, this part of its rows, where anything is gathered
--   OneForgotten old new n  == nothing is gathered of the rows of n; what is gathered of others is what was, or nothing
--
-- Source: this project.
use Rattle.std.specs.Prelude.{◌≡◌, ℕ, ◌<◌, ◌⊎◌, List, [], ◌∷◌, ◌++◌, map, length, slice_index_or}
use Rattle.std.specs.List.{AllByRecursion}
use Rattle.std.specs.List.Sorted.{IsPermutation}
use Rattle.bs_tree.specs.Tree.{Forest, Tree, trees}
use Rattle.bs_tree.specs.Canonical.{canonical_sequence}
use Rattle.bs_catalog.specs.Shelf.{Code, Numbers, rows_at}
use Rattle.bs_catalog.specs.Gathered.{IsKeyOf, AreKeys, Shows, gathered_key, expanded, AreGathered}
use Rattle.bs_catalog.specs.declared.gathering.Gathered.{Gathered}
use Rattle.bs_catalog.specs.declared.gathering.Key.{Key}

pub record IsSequence (code : Code) : Type 0 where
  pub tree : Tree
  pub is : code ≡ canonical_sequence tree

abbrev pub AreSequences : List (List Code) → Type 0
AreSequences lists = AllByRecursion (AllByRecursion IsSequence) lists

pub record IsForest (cs : List Code) (n : ℕ) (codes : List Code) : Type 0 where
  pub below : Forest
  pub is : Numbers cs n (canonical_sequence (record { colour = 0; below = below }))
  pub children : IsPermutation codes (map canonical_sequence (trees below))

-- ---- keys
abbrev pub key_of : Key → ℕ × ℕ
key_of key = (key.first, key.forest)

pub record HasKeys (cs : List Code) (all rows : List (List ℕ)) (keys : List Key) : Type 0 where
  pub each : AreKeys cs rows (map key_of keys)
  pub shown : AllByRecursion (λ key. Shows cs all key.row (key_of key)) keys

pub record PutsKey (cs : List Code) (row : List ℕ) (place : ℕ) (keys keys' : List Key) : Type 0 where
  pub key : Key
  pub put : keys' ≡ keys ++ key ∷ []
  pub place_is : key.row ≡ place
  pub is : IsKeyOf cs row (key_of key)

-- ---- groups
pub record AreGroups (keys : List Key) (gs : List Gathered) : Type 0 where
  pub same : map key_of keys ≡ expanded gs
  pub some : AllByRecursion (λ g. 0 < g.times) gs
  pub shown : (cs : List Code) (all : List (List ℕ)) → AllByRecursion (λ key. Shows cs all key.row (key_of key)) keys → AllByRecursion (λ g. Shows cs all g.row (gathered_key g)) gs

abbrev pub groups_at : List (List Gathered) → ℕ → List Gathered
groups_at groups n = slice_index_or groups n []

abbrev pub HoldsGroups : (List (List ℕ) → List (List ℕ)) → List Code → List (List (List ℕ)) → List (List Gathered) → Type 0
HoldsGroups part cs lists groups = (n : ℕ) → 0 < length (groups_at groups n) → AreGathered cs (rows_at lists n) (part (rows_at lists n)) (groups_at groups n)

pub record OneForgotten (old new : List (List Gathered)) (number : ℕ) : Type 0 where
  pub forgotten : groups_at new number ≡ []
  pub others : (n : ℕ) → (groups_at new n ≡ groups_at old n) ⊎ (groups_at new n ≡ [])
