use Rattle.bs_tree.proofs.Levels.{level_sequence_subtree}
use Rattle.bs_tree.proofs.code.Code.of_level_sequence.Goals as goal

pub code_of-requires : goal.code_of-requires
code_of-requires c = record { subtree = (level_sequence_subtree c.args.pairs.now c.requires).0 }
