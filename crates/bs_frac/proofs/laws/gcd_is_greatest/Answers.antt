use Rattle.bs_frac.proofs.CheckedLaws.{gcd_law}
use Rattle.bs_frac.proofs.laws.gcd_is_greatest.Goals as goal

pub returns : goal.returns
returns c = gcd_law
