use Rattle.bs_core.proofs.KeyLaws.{keys_decide}
use Rattle.bs_core.proofs.laws.keys_decide_codes.Goals as goal

pub returns : goal.returns
returns c = keys_decide
