use Rattle.bs_eval.specs.Rules.{IsRowIn}
use Rattle.bs_eval.proofs.Rows.{all_of}
use Rattle.bs_eval.proofs.RuleSteps.{part_at}
use Rattle.bs_eval.proofs.plan.PartRule.term.Goals as goal

pub returns-then-place-len-clause-is : goal.returns-then-place-len-clause-is
returns-then-place-len-clause-is c = λ es cs. part_at es cs c.args.self.now c.args.rows.now c.args.place c.get.result.now _ c.get.ensures (c.of_row.ensures.is es cs)

pub returns-then-place-len-clause-known : goal.returns-then-place-len-clause-known
returns-then-place-len-clause-known c = λ n m r rows. c.of_row.ensures.known n m r (all_of (IsRowIn m) c.args.rows.now c.args.place c.get.result.now rows c.get.ensures)
