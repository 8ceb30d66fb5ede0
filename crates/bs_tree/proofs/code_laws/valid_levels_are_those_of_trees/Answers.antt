use Rattle.bs_tree.proofs.Levels.{valid_levels-describe}
use Rattle.bs_tree.proofs.code_laws.valid_levels_are_those_of_trees.Goals as goal

pub returns : goal.returns
returns c = valid_levels-describe
