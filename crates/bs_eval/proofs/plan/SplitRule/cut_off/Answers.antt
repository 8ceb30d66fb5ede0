use Rattle.bs_eval.proofs.RuleSteps.{cut_turned, cut_plain}
use Rattle.bs_eval.proofs.plan.SplitRule.cut_off.Goals as goal

pub returns-then-self-clause-is : goal.returns-then-self-clause-is
returns-then-self-clause-is c = λ es cs. cut_turned es cs c.args.self.now c.args.trees.now c.if-self.true

pub returns-else-self-clause-is : goal.returns-else-self-clause-is
returns-else-self-clause-is c = λ es cs. cut_plain es cs c.args.self.now c.args.trees.now c.if-self.false
