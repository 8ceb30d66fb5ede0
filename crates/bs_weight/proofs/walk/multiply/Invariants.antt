use Rattle.std.proofs.Common.{◌≡◌, ℕ, ◌≤◌, length}
use Rattle.bs_tableau.specs.declared.TheConstants.{MAX_STAGES}
use Rattle.bs_weight.specs.Walk.{stage_in, MultipliesBy}
use Rattle.bs_weight.proofs.walk.multiply.Given as goal

abbrev pub invariant-stages : goal.invariant-stages
invariant-stages l = record {
  below : MultipliesBy l.stage l.fn.values l.values (stage_in l.factors);
  above : (i : ℕ) → l.stage ≤ i → stage_in l.values i ≡ stage_in l.fn.values i;
  places : length l.values ≡ MAX_STAGES;
}
