use Rattle.std.proofs.Common.{◌≡◌, [], ◌∷◌}
use Rattle.bs_frac.specs.Written.{checked, product_all}
use Rattle.bs_tableau.specs.Table.{matrix_entry}
use Rattle.bs_weight.specs.Walk.{stage_in}
use Rattle.bs_weight.proofs.Sums.{sum_below}
use Rattle.bs_weight.proofs.walk.edge_sum.Given as goal

abbrev pub invariant-columns : goal.invariant-columns
invariant-columns l =
    l.sum ≡ sum_below (λ j. product_all checked (checked.of (matrix_entry l.table l.colour l.row j) ∷ stage_in l.child j ∷ [])) l.column
