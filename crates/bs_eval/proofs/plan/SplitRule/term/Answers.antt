use Rattle.std.proofs.Common.{◌≡◌, ◌-◌, suc, arith}
use Rattle.bs_eval.specs.Rules.{IsRowIn}
use Rattle.bs_eval.proofs.Rows.{all_of}
use Rattle.bs_eval.proofs.RuleSteps.{split_later}
use Rattle.bs_eval.proofs.plan.SplitRule.term.Goals as goal

pub returns-then-place-count-clause-is : goal.returns-then-place-count-clause-is
returns-then-place-count-clause-is c = λ es cs.
    let z : c.args.place ≡ suc (c.args.place - 1) = omega arith in
    split_later es cs c.args.self.now c.args.tree c.args.rows.now c.args.count c.args.place (c.args.place - 1) c.get.result.now _ z c.if-place-count.true c.get.ensures (c.of_row.ensures.is es cs)

pub returns-then-place-count-clause-known : goal.returns-then-place-count-clause-known
returns-then-place-count-clause-known c = λ n m r t rows.
    c.of_row.ensures.known n m r (all_of (IsRowIn m) c.args.rows.now (c.args.place - 1) c.get.result.now rows c.get.ensures)
