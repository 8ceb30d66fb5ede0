use Rattle.std.proofs.Common.{ap, arith, length, length-drop}
use Rattle.bs_tree.proofs.Children.{rest_of_all}
use Rattle.bs_tree.proofs.code.Code.subtree_end.Goals as goal

pub returns-clause-within : goal.returns-clause-within
returns-clause-within c =
    let ps = c.pairs.result.now in
    omega (arith, c.first_count.ensures.within, ap length (rest_of_all ps c.args.node), length-drop c.args.node ps, c.requires, ap length c.pairs.ensures.value)
