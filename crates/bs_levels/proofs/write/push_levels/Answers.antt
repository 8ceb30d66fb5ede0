use Rattle.std.proofs.Common.{decimal, arith}
use Rattle.bs_levels.proofs.Texts.{push_text}
use Rattle.bs_levels.proofs.write.push_levels.Goals as goal

pub pairs-preserved : goal.pairs-preserved
pairs-preserved c = (
  push_text (λ p. decimal p.0) c.args.pairs.now c.pairs.node (0, 0) c.args.out.now.items c.pairs.out.items c.push_item.new.out.items c.pairs-test.true c.pairs.invariant.0 c.push_item.ensures.written,
  omega (arith, c.pairs.invariant.1, c.push_item.ensures.len),
  omega (arith, c.pairs.invariant.2, c.push_item.ensures.capacity),
)
