use Rattle.bs_weight.proofs.Children.{is_child}
use Rattle.bs_weight.proofs.memory.child_of.Goals as goal

pub returns-clause-tree : goal.returns-clause-tree
returns-clause-tree c = (is_child c.args.code.now c.args.place c.child.result c.order.ensures.code c.child.ensures.value).tree

pub returns-clause-colours : goal.returns-clause-colours
returns-clause-colours c = (is_child c.args.code.now c.args.place c.child.result c.order.ensures.code c.child.ensures.value).colours
