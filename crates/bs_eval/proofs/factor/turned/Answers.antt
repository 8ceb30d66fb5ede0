use Rattle.std.proofs.Common.{◌≡◌, ◌%◌, ◌∙◌, sym, arith}
use Rattle.bs_eval.proofs.SignsOfOrders.{signed_even, signed_odd}
use Rattle.bs_eval.proofs.factor.turned.Goals as goal

pub returns-then-order-eq1 : goal.returns-then-order-eq1
returns-then-order-eq1 c = c.opposite.ensures ∙ sym (signed_odd c.args.value c.args.order c.if-order-eq1.true)

pub returns-else-order-eq1 : goal.returns-else-order-eq1
returns-else-order-eq1 c = let e : c.args.order % 2 ≡ 0 = omega (arith, c.if-order-eq1.false) in sym (signed_even c.args.value c.args.order e)
