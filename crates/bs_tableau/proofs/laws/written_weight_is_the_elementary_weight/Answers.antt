use Rattle.bs_tableau.proofs.CheckedWeights.{written_is_weight_law}
use Rattle.bs_tableau.proofs.laws.written_weight_is_the_elementary_weight.Goals as goal

pub returns : goal.returns
returns c = written_is_weight_law
