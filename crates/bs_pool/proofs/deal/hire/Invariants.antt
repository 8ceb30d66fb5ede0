use Rattle.bs_pool.proofs.Deals.{Hired}
use Rattle.bs_pool.proofs.deal.hire.Given as goal

abbrev pub invariant-loop-worker : goal.invariant-loop-worker
invariant-loop-worker l = Hired l.worker l.initial.seats.items l.seats.items
