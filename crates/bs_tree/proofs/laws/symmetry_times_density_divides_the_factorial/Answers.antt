use Rattle.bs_tree.proofs.Bounds.{alpha_is}
use Rattle.bs_tree.proofs.laws.symmetry_times_density_divides_the_factorial.Goals as goal

pub returns : goal.returns
returns c = alpha_is
