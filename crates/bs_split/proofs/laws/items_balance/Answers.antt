use Rattle.bs_split.specs.SplittingLaws.{split_balanced}
use Rattle.bs_split.proofs.laws.items_balance.Goals as goal

pub returns : goal.returns
returns c = split_balanced
