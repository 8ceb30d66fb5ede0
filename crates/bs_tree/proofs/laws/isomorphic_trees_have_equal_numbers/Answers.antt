use Rattle.bs_tree.proofs.Divides.{order_same}
use Rattle.bs_tree.proofs.Invariance.{symmetry_same, density_same, alpha_same}
use Rattle.bs_tree.proofs.laws.isomorphic_trees_have_equal_numbers.Goals as goal

pub returns-clause-order : goal.returns-clause-order
returns-clause-order c = order_same

pub returns-clause-symmetry : goal.returns-clause-symmetry
returns-clause-symmetry c = symmetry_same

pub returns-clause-density : goal.returns-clause-density
returns-clause-density c = density_same

pub returns-clause-alpha : goal.returns-clause-alpha
returns-clause-alpha c = alpha_same
