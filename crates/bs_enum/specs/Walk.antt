-- A walk over all trees of an order, as contracts see it.
--
--   Ahead             == the order, the number of colours, and the canonical sequences that are still to come
--   whole n k         == a walk that has given nothing yet
--   from_here n k o   == of all trees of the order, those that are not greater than the sequence o; none where o is None
--   IsListed n k o    == o is None, or the canonical sequence of such a tree
--
-- Source: this project's own.
-- The code keeps the sequence that comes next alone.
use Rattle.std.specs.Prelude.{ℕ, List, [], filter, Option, Some, None, Contains}
use Rattle.std.specs.Ordering.{is_le}
use Rattle.bs_tree.specs.Canonical.{sequence_cmp}
use Rattle.bs_enum.specs.AllTrees.{all_trees}

pub record Ahead : Type 0 where
  pub order : ℕ
  pub colours : ℕ
  pub left : List (List (ℕ × ℕ))

abbrev pub whole : ℕ → ℕ → Ahead
whole n k = record { order = n; colours = k; left = all_trees n k }

abbrev pub from_here : ℕ → ℕ → Option (List (ℕ × ℕ)) → List (List (ℕ × ℕ))
from_here n k None = []
from_here n k (Some s) = filter (λ u. is_le (sequence_cmp u s)) (all_trees n k)

abbrev pub IsListed : ℕ → ℕ → Option (List (ℕ × ℕ)) → Type 0
IsListed n k None = Unit {0}
IsListed n k (Some s) = Contains (all_trees n k) s
