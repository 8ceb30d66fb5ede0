use Rattle.std.proofs.Common.{arith}
use Rattle.bs_levels.proofs.Pairs.{level_fits, pairs_step}
use Rattle.bs_levels.proofs.nodes.node_pairs.Goals as goal

pub counted_from-requires-clause-fits : goal.counted_from-requires-clause-fits
counted_from-requires-clause-fits c =
    omega (arith, level_fits c.args.levels.now c.loop-node.node c.requires.valid c.loop-node-test.true, c.requires.small)

pub loop-node-preserved : goal.loop-node-preserved
loop-node-preserved c = (
  omega (arith, c.push.ensures.len, c.loop-node.invariant.0),
  pairs_step c.args.levels.now c.args.colours.now c.loop-node.node c.loop-node.pairs.items c.push.new.self.items c.loop-node-test.true c.requires.one_each c.loop-node.invariant.1 (rw c.counted_from.ensures at c.push.ensures.items),
)
