use Rattle.std.proofs.Common.{◌≡◌, ◌≤◌, ◌-◌}
use Rattle.bs_order.specs.Behind.{left_to, IsWalkOf}
use Rattle.bs_order.proofs.up_to.next_to.Given as goal

abbrev pub invariant-orders : goal.invariant-orders
invariant-orders l = record {
  same : left_to l.fn.walk l.fn.order l.last l.colours ≡ left_to l.walk l.order l.last l.colours;
  within : l.order ≤ l.last;
  of : IsWalkOf l.colours l.walk;
}

abbrev pub decreases-orders : goal.decreases-orders
decreases-orders l = l.last - l.order
