use Rattle.bs_series.proofs.Needs.{needed_law}
use Rattle.bs_series.proofs.laws.needed_pairs_come_of_the_plan.Goals as goal

pub returns : goal.returns
returns c = needed_law
