use Rattle.bs_tree.proofs.Levels.{level_sequence_subtree}
use Rattle.bs_tree.proofs.tree.Tree.of_pairs.Goals as goal

pub tree_under-requires : goal.tree_under-requires
tree_under-requires c = record { subtree = (level_sequence_subtree c.args.pairs.now c.requires).0 }
