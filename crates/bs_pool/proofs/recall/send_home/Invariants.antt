use Rattle.std.proofs.Common.{◌≡◌, ℕ, ◌+◌}
use Rattle.bs_pool.specs.Seats.{Lined, own_of_all, carried}
use Rattle.bs_pool.specs.Moves.{Got}
use Rattle.bs_pool.proofs.Lists.{Upto}
use Rattle.bs_pool.proofs.recall.send_home.Given as goal

abbrev pub invariant-loop-thief : goal.invariant-loop-thief
invariant-loop-thief l = record {
  upto : Upto Got l.worker l.initial.seats.items l.seats.items;
  lined : Lined l.worker l.thief-iterator.rest.items l.initial.seats.items;
  taken : (x : ℕ) → own_of_all x l.seats.items + carried x l.thief-iterator.rest.items ≡ own_of_all x l.initial.seats.items + carried x l.fn.crew.items;
}
