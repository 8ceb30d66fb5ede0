-- Edge sums that are remembered.
--
--   AreStageValues t code vs  == at each stage i, the value is S(v)[i], where v is the tree of the code
--   AreEdgeSums t code sums   == at each stage i, the value is E(v)[i], where v is the tree of the code
--   AreRemembered t entries   == each entry has the edge sums of its own code over this tableau
--
-- Source: this project.
-- The code keeps the entries in the order in which they came, and finds one by a number worked out from its code.
use Rattle.std.specs.Prelude.{◌≡◌, ℕ, ◌<◌, List, All}
use Rattle.bs_frac.specs.Written.{checked}
use Rattle.bs_frac.specs.declared.coef.Coef.{Coef}
use Rattle.bs_tree.specs.Code.{tree_of}
use Rattle.bs_tableau.specs.Table.{Table}
use Rattle.bs_tableau.specs.WrittenWeight.{edge_sum, stage_value}
use Rattle.bs_weight.specs.Walk.{stage_in}
use Rattle.bs_weight.specs.declared.memory.Entry.{Entry}

abbrev pub AreStageValues : Table → List (ℕ × ℕ) → List Coef → Type 0
AreStageValues t code values = let v = tree_of code in (i : ℕ) → i < t.stages → stage_in values i ≡ stage_value checked t v.below i

abbrev pub AreEdgeSums : Table → List (ℕ × ℕ) → List Coef → Type 0
AreEdgeSums t code sums =
    let v = tree_of code in (i : ℕ) → i < t.stages → stage_in sums i ≡ edge_sum checked t v.colour i (stage_value checked t v.below)

abbrev pub AreRemembered : Table → List Entry → Type 0
AreRemembered t entries = All (λ entry. AreEdgeSums t entry.code entry.sums) entries
