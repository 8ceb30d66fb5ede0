use Rattle.std.proofs.Common.{◌∷◌, [], arith, get_or, refl, length, ◌<◌}
use Rattle.std.proofs.lemmas.List.{get_or_default}
use Rattle.bs_frac.specs.Written.{checked, product_all}
use Rattle.bs_frac.specs.declared.coef.Coef.TheVariants.{Overflow}
use Rattle.bs_tableau.specs.Table.{matrix_entry}
use Rattle.bs_weight.specs.Walk.{stage_in}
use Rattle.bs_weight.proofs.Sums.{sum_below-product}
use Rattle.bs_weight.proofs.walk.edge_sum.Goals as goal

pub columns-preserved : goal.columns-preserved
columns-preserved c =
    let child = c.args.child.now in
    let j = c.columns.column in
    let lt : j < length child = omega (arith, c.stages-column-end.ensures.value, c.stages-column-end.ensures.whole.begun.few_stages) in
    sum_below-product (λ j. product_all checked (checked.of (matrix_entry c.args.table.now c.args.colour c.args.row j) ∷ stage_in child j ∷ [])) j c.columns.sum c.add_product.new.self
    c.a.result (matrix_entry c.args.table.now c.args.colour c.args.row j) (get_or child j c.index-child-column.result) (stage_in child j)
    c.add_product.ensures c.a.ensures (get_or_default child j c.index-child-column.result Overflow lt) refl c.columns.invariant
