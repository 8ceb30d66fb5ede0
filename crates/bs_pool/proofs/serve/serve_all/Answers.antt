use Rattle.std.proofs.Common.{rules, arith}
use Rattle.bs_pool.proofs.Lists.{same_map}
use Rattle.bs_pool.proofs.serve.serve_all.Goals as goal

pub returns-clause-number : goal.returns-clause-number
returns-clause-number g c = same_map _ c.args.members.now c.for_each_mut.new.s (search rules) (λ i d l. let h = c.for_each_mut.ensures i d l in grind arith)
