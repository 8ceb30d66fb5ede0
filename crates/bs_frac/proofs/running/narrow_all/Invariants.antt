use Rattle.std.proofs.Common.{◌≡◌}
use Rattle.bs_frac.proofs.running.narrow_all.Given as goal

abbrev pub invariant-narrow : goal.invariant-narrow
invariant-narrow l = l.numbers ≡ l.initial.numbers
