use Rattle.std.proofs.Common.{◌≡◌, [], ◌∷◌}
use Rattle.bs_frac.specs.Written.{checked, product_all}
use Rattle.bs_tableau.specs.Table.{weight_entry}
use Rattle.bs_weight.specs.Walk.{stage_in}
use Rattle.bs_weight.proofs.Sums.{sum_below}
use Rattle.bs_weight.proofs.elementary.root_sum.Given as goal

abbrev pub invariant-stages : goal.invariant-stages
invariant-stages l =
    l.sum ≡ sum_below (λ i. product_all checked (checked.of (weight_entry l.table l.colour i) ∷ stage_in l.values i ∷ [])) l.stage
