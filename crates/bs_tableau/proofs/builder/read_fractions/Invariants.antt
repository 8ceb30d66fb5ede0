use Rattle.std.proofs.Common.{◌≡◌, length}
use Rattle.bs_tableau.proofs.Entries.{IsReading}
use Rattle.bs_tableau.specs.declared.TheConstants.{MAX_STAGES}
use Rattle.bs_tableau.proofs.builder.read_fractions.Given as goal

abbrev pub invariant-words : goal.invariant-words
invariant-words l = record {
  reading : IsReading l.fn.written l.row l.filled l.written;
  places : length l.row ≡ MAX_STAGES;
}

abbrev pub decreases-words : goal.decreases-words
decreases-words l = length l.written
