-- The pairs of a series and a tree whose values another value needs.
--
--   need s t     == the pairs that the value of s at t needs: itself, and what its plan reads, however deep, of the kinds that are looked up alone.
--                   A pair may stand in it more than once
--   Among x xs   == x is one of xs
--   AreApart xs  == no two of xs are equal
--
-- Source: this project.
use Rattle.std.specs.Prelude.{◌≡◌, ◌⊎◌, List, [], ◌∷◌, cond}
use Rattle.std.specs.List.{AllByRecursion}
use Rattle.bs_tree.specs.Tree.{Tree}
use Rattle.bs_series.specs.Series.{Series}
use Rattle.bs_series.specs.PlanItems.{needed, is_looked_up}

abbrev pub need : Series → Tree → List (Series × Tree)
need s t = cond (is_looked_up s) (needed s t) []

abbrev pub Among : {X : Type 0} → X → List X → Type 0
Among x [] = ⊥
Among x (y ∷ ys) = (x ≡ y) ⊎ Among x ys

abbrev pub AreApart : {X : Type 0} → List X → Type 0
AreApart [] = Unit {0}
AreApart (x ∷ xs) = AllByRecursion (λ y. ¬ (x ≡ y)) xs × AreApart xs
