use Rattle.std.proofs.Common.{suc, get_or, refl, subst, arith}
use Rattle.bs_weight.specs.Walk.{stage_in, MultipliesBy}
use Rattle.bs_weight.proofs.Steps.{stops-empty, stops-below, goes_on}
use Rattle.bs_weight.proofs.walk.+multiply_children.Goals as goal

pub returns-in-len1-up-clause-values : goal.returns-in-len1-up-clause-values
returns-in-len1-up-clause-values t c =
    goes_on c.args.table.now (suc c.args.parent.0) (get_or c.args.pairs.now 0 (0, 0)).0 c.from.result c.args.pairs.now c.args.values.now c.ones-child.result c.multiply_children-behind.new.values c.edge_sums-sums.result c.multiply.new.values c.multiply_children.new.values
    c.multiply_children-behind.result.now c.multiply_children.result.now c.ones-child.ensures.value c.edge_sums-sums.ensures.few_stages c.multiply_children-behind.ensures.values c.edge_sums-sums.ensures.sums (subst (λ n. MultipliesBy n c.args.values.now c.multiply.new.values (stage_in c.edge_sums-sums.result)) c.stages.ensures.value c.multiply.ensures) c.multiply_children.ensures.values
    c.in-len1-up.len_at_least c.if-node-parent.true refl c.from.ensures

pub returns-in_default-clause-values : goal.returns-in_default-clause-values
returns-in_default-clause-values t c = stops-empty c.args.table.now (suc c.args.parent.0) c.args.pairs.now c.args.values.now c.in_default.len_below

pub returns-in_default-2-clause-values : goal.returns-in_default-2-clause-values
returns-in_default-2-clause-values t c = stops-below c.args.table.now (suc c.args.parent.0) c.args.pairs.now c.args.values.now c.in-len1-up.len_at_least (omega (arith, c.if-node-parent.false))
