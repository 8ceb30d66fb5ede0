use Rattle.bs_memo.proofs.Telling.{keys_tell}
use Rattle.bs_memo.proofs.laws.keys_tell_series.Goals as goal

pub returns : goal.returns
returns c = keys_tell
