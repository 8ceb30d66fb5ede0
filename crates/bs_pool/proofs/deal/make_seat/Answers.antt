use Rattle.bs_pool.proofs.Rules.{begins}
use Rattle.bs_pool.proofs.deal.make_seat.Goals as goal

pub fifo_as-requires : goal.fifo_as-requires
fifo_as-requires c = begins
