-- The trees to an order, as a walk over them has them left.
--
--   Behind              == the number of colours, and the trees that are still to come
--   walk_left w         == those that a walk over one order has left; none where there is no walk
--   orders_behind n m k == the trees of the m orders behind order n, by rising order
--   left_to w n last k  == those of a walk over order n, and those of the orders from there to the last
--   IsWalkOf k w        == the walk, where there is one, goes over trees of k colours
--
-- Source: this project's own.
use Rattle.std.specs.Prelude.{◌≡◌, ℕ, zero, suc, ◌-◌, List, [], ◌++◌, Option, Some, None}
use Rattle.bs_enum.specs.AllTrees.{all_trees}
use Rattle.bs_enum.specs.Walk.{Ahead}

pub record Behind : Type 0 where
  pub colours : ℕ
  pub left : List (List (ℕ × ℕ))

abbrev pub walk_left : Option Ahead → List (List (ℕ × ℕ))
walk_left None = []
walk_left (Some walk) = walk.left

abbrev pub orders_behind : ℕ → ℕ → ℕ → List (List (ℕ × ℕ))
orders_behind n zero k = []
orders_behind n (suc m) k = all_trees (suc n) k ++ orders_behind (suc n) m k

abbrev pub left_to : Option Ahead → ℕ → ℕ → ℕ → List (List (ℕ × ℕ))
left_to walk n last k = walk_left walk ++ orders_behind n (last - n) k

abbrev pub IsWalkOf : ℕ → Option Ahead → Type 0
IsWalkOf k None = Unit {0}
IsWalkOf k (Some walk) = walk.colours ≡ k
