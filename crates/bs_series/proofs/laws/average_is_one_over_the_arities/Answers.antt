use Rattle.bs_series.proofs.Averages.{average_law}
use Rattle.bs_series.proofs.laws.average_is_one_over_the_arities.Goals as goal

pub returns : goal.returns
returns c = average_law
