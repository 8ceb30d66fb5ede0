use Rattle.bs_core.proofs.Lists.{keep_is}
use Rattle.bs_core.proofs.laws.keep_is_hold_then_give.Goals as goal

pub returns : goal.returns
returns c = keep_is
