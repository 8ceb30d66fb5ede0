use Rattle.bs_split.proofs.Items.{item_of_code}
use Rattle.bs_split.proofs.walk.rooted.Goals as goal

pub returns : goal.returns
returns c = item_of_code c.args.code.now c.args.kept.now c.pruned.result c.cut_trees-forest.result c.cut_trees-forest.ensures.code c.requires c.pruned.ensures c.cut_trees-forest.ensures.cut
