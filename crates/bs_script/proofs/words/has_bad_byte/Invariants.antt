use Rattle.std.proofs.Common.{◌≡◌, take}
use Rattle.bs_script.specs.Words.{has_bad_byte}
use Rattle.bs_script.proofs.words.has_bad_byte.Given as goal

abbrev pub invariant-bytes : goal.invariant-bytes
invariant-bytes l = l.bad ≡ has_bad_byte (take l.byte-index l.line)
