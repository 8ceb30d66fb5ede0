use Rattle.bs_series.proofs.Written.{written_is_value}
use Rattle.bs_series.proofs.laws.written_value_is_the_value.Goals as goal

pub returns : goal.returns
returns c = written_is_value
