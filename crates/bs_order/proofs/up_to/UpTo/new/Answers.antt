use Rattle.bs_order.proofs.Orders.{orders-all}
use Rattle.bs_order.proofs.up_to.UpTo.new.Goals as goal

pub returns-clause-left : goal.returns-clause-left
returns-clause-left c = orders-all c.args.order c.args.colours
