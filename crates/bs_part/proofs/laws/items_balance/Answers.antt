use Rattle.bs_part.specs.PartitionLaws.{part_balanced, part_nodes}
use Rattle.bs_part.proofs.laws.items_balance.Goals as goal

pub returns-clause-nodes : goal.returns-clause-nodes
returns-clause-nodes c = part_balanced

pub returns-clause-skeleton : goal.returns-clause-skeleton
returns-clause-skeleton c = part_nodes
