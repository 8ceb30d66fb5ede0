use Rattle.bs_frac.proofs.Numbers.{IsRead}
use Rattle.bs_frac.proofs.read.number_within.Given as goal

abbrev pub invariant-bytes : goal.invariant-bytes
invariant-bytes l = IsRead l.limit l.value l.word l.byte-index
