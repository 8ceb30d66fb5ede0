use Rattle.bs_order.specs.OrderConditions.{condition_at}
use Rattle.bs_order.proofs.Walked.{texts-more, front-kept}
use Rattle.bs_order.proofs.conditions.push_orders.Goals as goal

pub orders-preserved : goal.orders-preserved
orders-preserved c =
    let more = texts-more (condition_at c.args.table.now) c.args.out.now.items c.orders.out.items c.push_conditions.new.out.items c.orders.smaller c.colours.result c.args.table.now.colours c.new.result c.orders.invariant.written c.in_ok-push_conditions.ensures.written c.new.ensures c.colours.ensures.value in
    record { written = more; behind = front-kept c.args.out.now.items _ c.push_conditions.new.out.items more }
