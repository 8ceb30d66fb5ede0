use Rattle.std.proofs.Common.{◌∙◌, ap}
use Rattle.bs_frac.specs.Written.{checked}
use Rattle.bs_catalog.specs.Gathered.{gathered_key}
use Rattle.bs_series.specs.SeriesCode.{factor_at, written_at}
use Rattle.bs_eval.proofs.Leaps.{if_product}
use Rattle.bs_eval.proofs.leap.Leap.product.Goals as goal

pub returns : goal.returns
returns c = λ tables es cs are.
    if_product tables es cs c.args.self.now.rule c.times.result c.in_ok-remembered.field-0.now (gathered_key c.args.group.now)
    (c.in_ok-remembered.ensures tables es cs are ∙ ap (factor_at checked (written_at tables)) (c.outer_factor-outer.ensures.is es cs))
    (c.times.ensures.product _ _ c.in_ok-first.ensures (c.in_ok-recall_product.ensures tables es cs are).product)
