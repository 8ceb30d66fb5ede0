use Rattle.std.proofs.Common.{◌≤◌}
use Rattle.bs_frac_bench.proofs.mix.run.Given as goal

abbrev pub invariant-rounds : goal.invariant-rounds
invariant-rounds l = l.tally.overflows ≤ l.round
