use Rattle.std.proofs.Common.{◌≡◌, ◌+◌, ◌∙◌, sym, refl, arith}
use Rattle.bs_order.specs.OrderConditions.{verdict_of_order}
use Rattle.bs_order.proofs.Walked.{verdict-read, order-stops, open-stops, order-whole, open-whole}
use Rattle.bs_reply.specs.declared.verdict.Verdict.TheVariants.{Fails, Unknown}
use Rattle.bs_order.proofs.conditions.order_of.Goals as goal

-- ---- a wrong weight
failing : (c : goal.In-Fails) → verdict_of_order c.args.table.now (1 + c.orders.met) ≡ Fails
failing c = sym (verdict-read c.args.table.now c.orders.met c.colours.result c.new.result c.new.ensures c.colours.ensures.value) ∙ sym c.verdict_left.ensures ∙ c.in-Fails.is

pub returns-in-Fails-clause-number : goal.returns-in-Fails-clause-number
returns-in-Fails-clause-number c = order-stops c.args.table.now c.args.order c.orders.met c.orders.invariant Fails c.orders-test.true (failing c) refl

pub returns-in-Fails-clause-open : goal.returns-in-Fails-clause-open
returns-in-Fails-clause-open c = open-stops c.args.table.now c.args.order c.orders.met c.orders.invariant Fails c.orders-test.true (failing c) refl

-- ---- an overflow
unknown : (c : goal.In-Unknown) → verdict_of_order c.args.table.now (1 + c.orders.met) ≡ Unknown
unknown c = sym (verdict-read c.args.table.now c.orders.met c.colours.result c.new.result c.new.ensures c.colours.ensures.value) ∙ sym c.verdict_left.ensures ∙ c.in-Unknown.is

pub returns-in-Unknown-clause-number : goal.returns-in-Unknown-clause-number
returns-in-Unknown-clause-number c = order-stops c.args.table.now c.args.order c.orders.met c.orders.invariant Unknown c.orders-test.true (unknown c) refl

pub returns-in-Unknown-clause-open : goal.returns-in-Unknown-clause-open
returns-in-Unknown-clause-open c = open-stops c.args.table.now c.args.order c.orders.met c.orders.invariant Unknown c.orders-test.true (unknown c) refl

-- ---- all orders hold
pub returns-clause-number : goal.returns-clause-number
returns-clause-number c = order-whole c.args.table.now c.args.order c.orders.met c.orders.invariant (omega (arith, c.orders-test.false, c.orders.auto.met-end))

pub returns-clause-open : goal.returns-clause-open
returns-clause-open c = open-whole c.args.table.now c.args.order c.orders.met c.orders.invariant (omega (arith, c.orders-test.false, c.orders.auto.met-end))
