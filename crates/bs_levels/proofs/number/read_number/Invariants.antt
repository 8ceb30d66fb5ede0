use Rattle.bs_levels.proofs.Numbers.{IsRead}
use Rattle.bs_levels.proofs.number.read_number.Given as goal

abbrev pub invariant-bytes : goal.invariant-bytes
invariant-bytes l = IsRead l.limit l.value l.word l.byte-index
