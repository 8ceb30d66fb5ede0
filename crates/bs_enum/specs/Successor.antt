-- What follows a sequence in the list of all trees, as private functions speak of it.
--
--   chain l k m      == m nodes, each the child of the one before it, of the greatest colour below k; the first at level l + 1
--   turned m ps      == the first m pairs of ps ++ ps ++ ..
--   IsLeast p        == p is the least pair that may stand behind the root, of level 2 and colour 0
--
-- Source: Beyer and Hedetniemi (1980), the successor of a level sequence, here with colours.
use Rattle.std.specs.Prelude.{◌≡◌, ℕ, zero, suc, ◌-◌, List, [], ◌∷◌, ◌++◌}

abbrev pub chain : ℕ → ℕ → ℕ → List (ℕ × ℕ)
chain l k zero = []
chain l k (suc m) = (suc l, k - 1) ∷ chain (suc l) k m

abbrev pub turned : ℕ → List (ℕ × ℕ) → List (ℕ × ℕ)
turned zero ps = []
turned (suc m) [] = []
turned (suc m) (p ∷ ps) = p ∷ turned m (ps ++ p ∷ [])

abbrev pub IsLeast : ℕ × ℕ → Type 0
IsLeast p = (p.0 ≡ 2) × (p.1 ≡ 0)
