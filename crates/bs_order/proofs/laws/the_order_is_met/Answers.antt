use Rattle.bs_order.proofs.OrderTold.{order_is_met}
use Rattle.bs_order.proofs.laws.the_order_is_met.Goals as goal

pub returns : goal.returns
returns c = order_is_met
