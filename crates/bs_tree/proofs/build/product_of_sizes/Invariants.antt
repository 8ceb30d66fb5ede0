use Rattle.std.proofs.Common.{◌≡◌, ◌*◌, drop}
use Rattle.bs_tree.specs.Subtrees.{sizes}
use Rattle.bs_tree.proofs.build.product_of_sizes.Given as goal

abbrev pub invariant-nodes : goal.invariant-nodes
invariant-nodes l = l.product * sizes (drop l.node l.pairs) ≡ sizes l.pairs
