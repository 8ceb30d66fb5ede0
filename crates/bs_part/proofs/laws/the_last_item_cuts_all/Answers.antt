use Rattle.bs_part.specs.PartitionLaws.{last_part}
use Rattle.bs_part.proofs.laws.the_last_item_cuts_all.Goals as goal

pub returns : goal.returns
returns c = last_part
