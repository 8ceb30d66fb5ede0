use Rattle.std.proofs.Common.{◌<◌}
use Rattle.bs_frac.proofs.running.common_denominator.Given as goal

abbrev pub invariant-numbers : goal.invariant-numbers
invariant-numbers l = 0 < l.den
