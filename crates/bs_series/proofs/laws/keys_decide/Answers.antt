use Rattle.bs_series.proofs.KeyLaws.{keys_decide}
use Rattle.bs_series.proofs.laws.keys_decide.Goals as goal

pub returns : goal.returns
returns c = keys_decide
