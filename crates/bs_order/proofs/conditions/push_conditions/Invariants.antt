use Rattle.std.proofs.Common.{◌≡◌, ◌++◌, take, length}
use Rattle.std.specs.Prelude.{flat_map}
use Rattle.bs_order.specs.OrderConditions.{condition_at}
use Rattle.bs_order.proofs.conditions.push_conditions.Given as goal

abbrev pub invariant-trees : goal.invariant-trees
invariant-trees l = record {
  written : l.out.items ++ flat_map (condition_at l.table) l.walk.left ≡ l.fn.out.items ++ flat_map (condition_at l.table) l.fn.walk.left;
  behind : take (length l.fn.out.items) l.out.items ≡ l.fn.out.items;
  colours : l.walk.colours ≡ l.table.colours;
}

abbrev pub decreases-trees : goal.decreases-trees
decreases-trees l = length l.walk.left
