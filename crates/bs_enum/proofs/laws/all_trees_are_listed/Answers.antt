use Rattle.bs_enum.proofs.Facts.{each_tree_is_listed, only_trees_are_listed}
use Rattle.bs_enum.proofs.laws.all_trees_are_listed.Goals as goal

pub returns-clause-each : goal.returns-clause-each
returns-clause-each c = each_tree_is_listed

pub returns-clause-only : goal.returns-clause-only
returns-clause-only c = only_trees_are_listed
