use Rattle.std.proofs.Common.{◌<◌, length, arith}
use Rattle.std.proofs.lemmas.Grind.{common_steps}
use Rattle.bs_series.specs.SeriesCode.{written_at}
use Rattle.bs_series.specs.Expressions.{series_at}
use Rattle.bs_eval.specs.Terms.{code_at}
use Rattle.bs_eval.proofs.Factors.{first_value, next_value, all_values}
use Rattle.bs_eval.proofs.values.Values.product.Goals as goal

pub trees-init : goal.trees-init
trees-init c = λ tables es cs are.
    let some : 0 < length c.args.trees.now = grind (arith, common_steps, c.is_empty.ensures, c.if-is_empty.false) in
    first_value (λ tree. written_at tables (series_at es c.args.series) (code_at cs tree)) c.args.trees.now c.in_ok-product.product c.in_ok-recall.field-0.now some (c.in_ok-recall.ensures tables es cs are).value c.in_ok-product.ensures

pub trees-preserved : goal.trees-preserved
trees-preserved c = λ tables es cs are.
    next_value (λ tree. written_at tables (series_at es c.args.series) (code_at cs tree)) c.args.trees.now c.in_ok-more.more c.in_ok-recall-2.field-0.now c.trees.place c.trees-test.true (c.in_ok-recall-2.ensures tables es cs are).value
    (c.in_ok-more.ensures.product _ _ (c.trees.invariant tables es cs are) c.in_ok-factor.ensures)

pub returns : goal.returns
returns c = λ tables es cs are.
    all_values (λ tree. written_at tables (series_at es c.args.series) (code_at cs tree)) c.args.trees.now c.trees.product c.trees.place c.trees-test.false (c.trees.invariant tables es cs are)
