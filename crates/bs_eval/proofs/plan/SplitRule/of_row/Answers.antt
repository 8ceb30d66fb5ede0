use Rattle.std.proofs.Common.{◌∙◌, ap, map}
use Rattle.bs_eval.specs.Terms.{code_at}
use Rattle.bs_eval.specs.Rules.{cut_factor}
use Rattle.bs_eval.proofs.Rows.{rest_of_row, head_below, tail_below}
use Rattle.bs_eval.proofs.RuleSteps.{split_row_step}
use Rattle.bs_eval.proofs.plan.SplitRule.of_row.Goals as goal

pub returns-clause-is : goal.returns-clause-is
returns-clause-is c = λ es cs.
    split_row_step es cs c.args.self.now c.args.row.now _ c.requires (c.cut_off.ensures.is es cs ∙ ap (λ ns. map (cut_factor es c.args.self.now) (map (code_at cs) ns)) (rest_of_row c.args.row.now))

pub returns-clause-known : goal.returns-clause-known
returns-clause-known c = λ n m r row. record {
  first = (r.kept, head_below m c.args.row.now row);
  behind = c.cut_off.ensures.known n m r.cut (tail_below m c.args.row.now row);
}
