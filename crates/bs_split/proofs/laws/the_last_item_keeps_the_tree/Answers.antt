use Rattle.bs_split.specs.SplittingLaws.{split_shape}
use Rattle.bs_split.proofs.laws.the_last_item_keeps_the_tree.Goals as goal

pub returns : goal.returns
returns c = split_shape
