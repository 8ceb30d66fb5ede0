use Rattle.bs_frac.proofs.CheckedLaws.{one_reduced_law}
use Rattle.bs_frac.proofs.laws.one_reduced_pair.Goals as goal

pub returns : goal.returns
returns c = one_reduced_law
