use Rattle.std.proofs.Common.{◌≡◌, ℕ, ◌<◌, length}
use Rattle.bs_frac.specs.Written.{checked}
use Rattle.bs_tableau.specs.WrittenWeight.{edge_sum}
use Rattle.bs_tableau.specs.declared.TheConstants.{MAX_STAGES}
use Rattle.bs_weight.specs.Walk.{stage_in}
use Rattle.bs_weight.proofs.walk.edge_sums.Given as goal

abbrev pub invariant-rows : goal.invariant-rows
invariant-rows l = record {
  below : (i : ℕ) → i < l.row → stage_in l.sums i ≡ edge_sum checked l.table l.colour i (stage_in l.child);
  places : length l.sums ≡ MAX_STAGES;
}
