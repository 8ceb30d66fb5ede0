-- What a driver over a shared store knows of a session's trees, and of its pass.
--
--   held_of trees          == the pairs of the places that have one: a place is empty once its tree was given back
--   tree_in trees n        == the pair at the place of a number; code_in trees n: its code
--   AreHeld trees s        == there is a place for each tree that was interned, at its number; those of the live trees have their codes
--   Has l p                == a list has the pair
--   Adds code old new      == one place more, with a pair of this code
--   SameBeside ts l ts' l' == beside the pairs of the trees, a pass holds each pair as often after as before
--   IsFor tables es step   == a value is looked up, or kept, of a series of the book; what is kept is its written value
--   SameValues ts us es    == each of these series has the same written values over both lists of tableaux
--
-- Source: this project.
use Rattle.std.specs.Prelude.{◌≡◌, ℕ, ◌+◌, ◌<◌, ◌≤◌, List, [], ◌∷◌, ◌++◌, length, Option, Some, None, option_map, slice_get}
use Rattle.bs_tree.specs.Tree.{Tree}
use Rattle.bs_tableau.specs.Table.{Table}
use Rattle.bs_series.specs.Series.{Series}
use Rattle.bs_series.specs.SeriesCode.{written_at}
use Rattle.bs_series.specs.Value.{written}
use Rattle.bs_series.specs.Expressions.{series_at}
use Rattle.bs_core.specs.Codes.{Code}
use Rattle.bs_core.specs.Machine.{pair}
use Rattle.bs_core.specs.Laws.{often}
use Rattle.bs_core.specs.declared.name.Name.{Name}
use Rattle.bs_core.specs.declared.table.Held.{Held}
use Rattle.bs_names.specs.Names.{at}
use Rattle.bs_session.specs.Machine.{State}
use Rattle.bs_names.specs.declared.live.LiveTree.{LiveTree}
use Rattle.bs_work.specs.declared.step.Step.{Step}
use Rattle.bs_work.specs.declared.step.Step.TheVariants.{Intern, Release, Same, Look, Keep, Done}

-- ---- the places of the trees
abbrev pub held_of : List (Option Held) → List Held
held_of [] = []
held_of (None ∷ trees) = held_of trees
held_of (Some p ∷ trees) = p ∷ held_of trees

abbrev pub tree_at : Option (Option Held) → Option Held
tree_at None = None
tree_at (Some tree) = tree

abbrev pub tree_in : List (Option Held) → ℕ → Option Held
tree_in trees number = tree_at (slice_get trees number)

abbrev pub code_in : List (Option Held) → ℕ → Option Code
code_in trees number = option_map (λ p. p.code) (tree_in trees number)

pub record AreHeld (trees : List (Option Held)) (s : State) : Type 0 where
  pub all : length trees ≡ s.interned
  pub each : (name : List ℕ) (tree : LiveTree) → at name s.space.live ≡ Some tree → code_in trees tree.number ≡ Some tree.code

-- ---- the pairs of a pass
abbrev pub Has : List Held → Held → Type 0
Has l p = 1 ≤ often p.name p.code l

abbrev pub Adds : Code → List (Option Held) → List (Option Held) → Type 0
Adds code old new = (x : Name) × (new ≡ old ++ Some (pair x code) ∷ [])

abbrev pub SameBeside : List (Option Held) → List Held → List (Option Held) → List Held → Type 0
SameBeside trees l trees' l' = (x : Name) (c : Code) → often x c l' + often x c (held_of trees) ≡ often x c l + often x c (held_of trees')

-- ---- values
abbrev pub IsFor : List Table → List Series → Step → Type 0
IsFor tables es (Intern tree code) = Unit {0}
IsFor tables es (Release tree) = Unit {0}
IsFor tables es (Same left right) = Unit {0}
IsFor tables es (Look id code) = id < length es
IsFor tables es (Keep id code v) = (id < length es) × (v ≡ written_at tables (series_at es id) code)
IsFor tables es (Done reply) = Unit {0}

abbrev pub SameValues : List Table → List Table → List Series → Type 0
SameValues ts us es = (i : ℕ) → i < length es → (t : Tree) → written ts (series_at es i) t ≡ written us (series_at es i) t
