use Rattle.bs_core.proofs.Lists.{lists_stay}
use Rattle.bs_core.proofs.laws.other_lists_stay.Goals as goal

pub returns : goal.returns
returns c = lists_stay
