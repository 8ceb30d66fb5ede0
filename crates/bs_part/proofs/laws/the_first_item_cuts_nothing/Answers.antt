use Rattle.bs_part.specs.PartitionLaws.{part_shape}
use Rattle.bs_part.proofs.laws.the_first_item_cuts_nothing.Goals as goal

pub returns : goal.returns
returns c = part_shape
