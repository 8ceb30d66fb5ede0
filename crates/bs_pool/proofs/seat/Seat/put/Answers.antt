use Rattle.bs_pool.proofs.Rules.{deals}
use Rattle.bs_pool.proofs.seat.Seat.put.Goals as goal

pub push_as-requires-clause-pushes : goal.push_as-requires-clause-pushes
push_as-requires-clause-pushes c = deals _ _ _ c.args.self.now.share
