use Rattle.std.proofs.Common.{◌≡◌, ◌≤◌, arith, rules}
use Rattle.bs_tree.specs.Tree.{order}
use Rattle.bs_tree.specs.Numbers.{alpha}
use Rattle.bs_tree.proofs.Bounds.{weight_fits, alpha_pos}
use Rattle.bs_tree.proofs.tree.Tree.alpha.Goals as goal
use Rattle.bs_tree.specs.declared.TheConstants.{MAX_NODES}

pub labellings-requires-clause-fits : goal.labellings-requires-clause-fits
labellings-requires-clause-fits c =
    let small : order c.args.self.now ≤ MAX_NODES = omega arith in
    rw (c.symmetry.ensures.value, c.density.ensures.value) (weight_fits c.args.self.now small)

pub returns-clause-positive : goal.returns-clause-positive
returns-clause-positive c =
    let value : c.labellings.result ≡ alpha c.args.self.now = search rules in
    omega (arith, value, alpha_pos c.args.self.now)
