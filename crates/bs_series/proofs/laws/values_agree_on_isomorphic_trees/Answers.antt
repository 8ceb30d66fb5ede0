use Rattle.bs_series.proofs.Isomorphic.{values_agree}
use Rattle.bs_series.proofs.laws.values_agree_on_isomorphic_trees.Goals as goal

pub returns : goal.returns
returns c = values_agree
