use Rattle.bs_series.proofs.Everywhere.{sums_agree}
use Rattle.bs_series.proofs.laws.sums_agree_on_isomorphic_trees.Goals as goal

pub returns : goal.returns
returns c = sums_agree
