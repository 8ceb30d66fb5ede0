use Rattle.bs_series.proofs.Colours.{colours_law}
use Rattle.bs_series.proofs.laws.plans_keep_colours.Goals as goal

pub returns : goal.returns
returns c = colours_law
