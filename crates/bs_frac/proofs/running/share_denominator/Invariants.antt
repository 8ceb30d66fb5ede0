use Rattle.std.proofs.Common.{◌≡◌}
use Rattle.bs_frac.proofs.running.share_denominator.Given as goal

abbrev pub invariant-widen : goal.invariant-widen
invariant-widen l = l.numbers ≡ l.initial.numbers
