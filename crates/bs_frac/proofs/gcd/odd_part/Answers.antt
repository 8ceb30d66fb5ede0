use Rattle.std.proofs.Common.{rules}
use Rattle.std.specs.Int.{w64}
use Rattle.bs_frac.proofs.OddPart.{twos_out}
use Rattle.std.proofs.lemmas.Nat.Bits.{bit_at-trailing_zeros}
use Rattle.bs_frac.proofs.gcd.odd_part.Goals as goal

pub returns-clause-odd : goal.returns-clause-odd
returns-clause-odd c = (bit_at-trailing_zeros w64 c.args.n c.requires (search rules)).1

pub returns-clause-twos : goal.returns-clause-twos
returns-clause-twos c = twos_out 64 c.args.n c.requires (search rules)
