use Rattle.bs_series.proofs.Longer.{same_over_front}
use Rattle.bs_series.proofs.fronts.written_values_need_a_front.Goals as goal

pub returns : goal.returns
returns c = same_over_front
