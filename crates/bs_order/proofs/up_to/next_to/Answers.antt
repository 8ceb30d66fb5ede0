use Rattle.std.proofs.Common.{◌∙◌, sym, ap, arith}
use Rattle.bs_enum.specs.Walk.{Ahead}
use Rattle.bs_order.proofs.Orders.{order-begun}
use Rattle.bs_order.proofs.up_to.next_to.Goals as goal

pub returns-in-Some-clause-walk : goal.returns-in-Some-clause-walk
returns-in-Some-clause-walk c = c.next_in.ensures.walk c.args.colours c.orders.invariant.of

pub returns-then-order-last-clause-walk : goal.returns-then-order-last-clause-walk
returns-then-order-last-clause-walk c = c.next_in.ensures.walk c.args.colours c.orders.invariant.of

pub orders-preserved : goal.orders-preserved
orders-preserved c = record {
  same = c.orders.invariant.same ∙ sym (order-begun c.orders.order c.args.last c.args.colours c.orders.walk c.new.result (omega (arith, c.if-order-last.false)) c.in_default.ensures.left c.new.ensures);
  within = omega arith;
  of = ap (λ (a : Ahead). a.colours) c.new.ensures;
}
