use Rattle.bs_eval.proofs.Rows.{rest_of_row, head_below, tail_below}
use Rattle.bs_eval.proofs.RuleSteps.{part_row_step}
use Rattle.bs_eval.proofs.plan.PartRule.of_row.Goals as goal

pub returns-clause-is : goal.returns-clause-is
returns-clause-is c = λ es cs. part_row_step es cs c.args.self.now c.args.row.now _ _ c.requires (c.outer_factor.ensures.is es cs) (rest_of_row c.args.row.now)

pub returns-clause-known : goal.returns-clause-known
returns-clause-known c = λ n m r row. record {
  first = c.outer_factor.ensures.known n m r.outer (head_below m c.args.row.now row);
  behind = (r.inner, tail_below m c.args.row.now row);
}
