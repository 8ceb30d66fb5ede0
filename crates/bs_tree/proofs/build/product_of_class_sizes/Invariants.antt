use Rattle.std.proofs.Common.{◌≡◌, ◌*◌, drop}
use Rattle.bs_tree.specs.Subtrees.{class_sizes}
use Rattle.bs_tree.proofs.build.product_of_class_sizes.Given as goal

abbrev pub invariant-nodes : goal.invariant-nodes
invariant-nodes l = l.product * class_sizes (drop l.node l.pairs) ≡ class_sizes l.pairs
