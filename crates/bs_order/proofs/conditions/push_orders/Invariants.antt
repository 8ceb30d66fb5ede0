use Rattle.std.proofs.Common.{◌≡◌, ◌++◌, take, length}
use Rattle.std.specs.Prelude.{flat_map}
use Rattle.bs_enum.specs.AllTrees.{trees_up_to}
use Rattle.bs_order.specs.OrderConditions.{condition_at}
use Rattle.bs_order.proofs.conditions.push_orders.Given as goal

abbrev pub invariant-orders : goal.invariant-orders
invariant-orders l = record {
  written : l.out.items ≡ l.fn.out.items ++ flat_map (condition_at l.table) (trees_up_to l.smaller l.table.colours);
  behind : take (length l.fn.out.items) l.out.items ≡ l.fn.out.items;
}
