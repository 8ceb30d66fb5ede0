use Rattle.bs_series.proofs.Items.{items_law}
use Rattle.bs_series.proofs.laws.plans_go_over_the_items.Goals as goal

pub returns : goal.returns
returns c = items_law
