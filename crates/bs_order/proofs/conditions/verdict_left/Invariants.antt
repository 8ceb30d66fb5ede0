use Rattle.std.proofs.Common.{◌≡◌, map, length}
use Rattle.std.specs.Prelude.{◌||◌}
use Rattle.std.specs.List.{list_any}
use Rattle.bs_order.specs.OrderConditions.{verdict_at, is_failing, is_unknown}
use Rattle.bs_order.proofs.conditions.verdict_left.Given as goal

abbrev pub invariant-trees : goal.invariant-trees
invariant-trees l = record {
  failing : list_any is_failing (map (verdict_at l.table) l.fn.walk.left) ≡ list_any is_failing (map (verdict_at l.table) l.walk.left);
  unknown : list_any is_unknown (map (verdict_at l.table) l.fn.walk.left) ≡ (l.open || list_any is_unknown (map (verdict_at l.table) l.walk.left));
  colours : l.walk.colours ≡ l.table.colours;
}

abbrev pub decreases-trees : goal.decreases-trees
decreases-trees l = length l.walk.left
