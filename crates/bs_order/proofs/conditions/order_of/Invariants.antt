use Rattle.std.proofs.Common.{◌≡◌, ◌+◌, ◌<◌, ℕ, true}
use Rattle.bs_order.specs.OrderConditions.{is_holding, verdict_of_order}
use Rattle.bs_order.proofs.conditions.order_of.Given as goal

abbrev pub invariant-orders : goal.invariant-orders
invariant-orders l = (n : ℕ) → n < l.met → is_holding (verdict_of_order l.table (1 + n)) ≡ true
