-- One step of the walk over a level sequence that computes a weight.
--
--   stage_in values i            == the value at stage i
--   IsBelow level pairs          == the pairs are none, or the first of them is of a lower level
--   MultipliesTrees t l ps vs ws rest == where the pairs ps are the level sequence of trees at level l and then pairs below that
--                                   level, these are the rest, and at each stage the values ws are the values vs times the
--                                   edge sums of the trees in their order
--
-- Source: this project.
use Rattle.std.specs.Prelude.{◌≡◌, ℕ, ◌<◌, List, [], ◌∷◌, ◌++◌, fold, slice_index_or}
use Rattle.bs_frac.specs.Written.{checked}
use Rattle.bs_frac.specs.declared.coef.Coef.{Coef}
use Rattle.bs_frac.specs.declared.coef.Coef.TheVariants.{Overflow}
use Rattle.bs_tree.specs.Tree.{Forest}
use Rattle.bs_tree.specs.Canonical.{level_sequence_at}
use Rattle.bs_tableau.specs.Table.{Table}
use Rattle.bs_tableau.specs.WrittenWeight.{edge_sums}

abbrev pub stage_in : List Coef → ℕ → Coef
stage_in values i = slice_index_or values i Overflow

-- each value times its own factor
abbrev pub MultipliesBy : ℕ → List Coef → List Coef → (ℕ → Coef) → Type 0
MultipliesBy stages old new factor = (i : ℕ) → i < stages → stage_in new i ≡ checked.product (stage_in old i) (factor i)

abbrev pub IsBelow : ℕ → List (ℕ × ℕ) → Type 0
IsBelow level [] = Unit {0}
IsBelow level (p ∷ ps) = p.0 < level

-- what a walk over these trees leaves and gives
pub record IsMultiplied (t : Table) (f : Forest) (later : List (ℕ × ℕ)) (old new : List Coef) (rest : List (ℕ × ℕ)) : Type 0 where
  pub left : rest ≡ later
  pub values : (i : ℕ) → i < t.stages → stage_in new i ≡ fold checked.product (stage_in old i) (edge_sums checked t f i)

abbrev pub MultipliesTrees : Table → ℕ → List (ℕ × ℕ) → List Coef → List Coef → List (ℕ × ℕ) → Type 0
MultipliesTrees t level pairs old new rest =
    (f : Forest) (later : List (ℕ × ℕ)) → IsBelow level later → pairs ≡ level_sequence_at level f ++ later → IsMultiplied t f later old new rest
