use Rattle.bs_series.proofs.Below.{plan_below}
use Rattle.bs_series.proofs.laws.plans_read_smaller_pairs.Goals as goal

pub returns : goal.returns
returns c = plan_below
