use Rattle.std.proofs.Common.{◌≡◌, vec_len}
use Rattle.bs_frac_bench.proofs.mix.table.Given as goal

abbrev pub invariant-places : goal.invariant-places
invariant-places l = vec_len l.fractions ≡ l._place
