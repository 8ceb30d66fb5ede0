use Rattle.std.proofs.Common.{◌∷◌, [], arith, get_or, refl, length, ◌<◌}
use Rattle.std.proofs.lemmas.List.{get_or_default}
use Rattle.bs_frac.specs.Written.{checked, product_all}
use Rattle.bs_frac.specs.declared.coef.Coef.TheVariants.{Overflow}
use Rattle.bs_tableau.specs.Table.{weight_entry}
use Rattle.bs_weight.specs.Walk.{stage_in}
use Rattle.bs_weight.proofs.Sums.{sum_below-product}
use Rattle.bs_weight.proofs.elementary.root_sum.Goals as goal

pub stages-preserved : goal.stages-preserved
stages-preserved c =
    let values = c.args.values.now in
    let i = c.stages.stage in
    let lt : i < length values = omega (arith, c.stages-stage-end.ensures.value, c.stages-stage-end.ensures.whole.begun.few_stages) in
    sum_below-product (λ i. product_all checked (checked.of (weight_entry c.args.table.now c.args.colour i) ∷ stage_in values i ∷ [])) i c.stages.sum c.add_product.new.self
    c.b.result (weight_entry c.args.table.now c.args.colour i) (get_or values i c.index-values-stage.result) (stage_in values i)
    c.add_product.ensures c.b.ensures (get_or_default values i c.index-values-stage.result Overflow lt) refl c.stages.invariant
