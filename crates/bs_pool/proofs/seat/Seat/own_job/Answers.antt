use Rattle.std.proofs.Common.{refl}
use Rattle.bs_pool.proofs.Rules.{takes, pops, finds}
use Rattle.bs_pool.proofs.Grows.{owner_pops}
use Rattle.bs_pool.proofs.seat.Seat.own_job.Goals as goal

pub pop_as-requires-clause-fifo : goal.pop_as-requires-clause-fifo
pop_as-requires-clause-fifo c = λ _. takes _ _ c.args.self.now.share

pub pop_as-requires-clause-lifo : goal.pop_as-requires-clause-lifo
pop_as-requires-clause-lifo c = λ _. pops _ _ c.args.self.now.share

pub pop_as-requires-clause-empty : goal.pop_as-requires-clause-empty
pop_as-requires-clause-empty c = finds _ _

pub returns : goal.returns
returns c = owner_pops c.pop_as.result c.args.self.now _ refl c.pop_as.ensures.same.0.0 refl refl refl c.pop_as.ensures.rule
