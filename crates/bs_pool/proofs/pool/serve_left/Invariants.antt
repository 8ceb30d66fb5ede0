use Rattle.std.proofs.Common.{◌≡◌, All, map, vec_len}
use Rattle.bs_pool.specs.Seats.{AllDone}
use Rattle.bs_pool.specs.Moves.{Ended}
use Rattle.bs_pool.proofs.Lists.{Upto}
use Rattle.bs_pool.proofs.pool.serve_left.Given as goal

abbrev pub invariant-loop-worker : goal.invariant-loop-worker
invariant-loop-worker g l = record {
  good : All (g.W.Work.good l.work) l.locals.items;
  number : map (g.W.Work.number l.work) l.locals.items ≡ map (g.W.Work.number l.work) l.initial.locals.items;
  done : All (AllDone (g.W.Work.answer l.work)) l.seats.items;
  upto : Upto Ended l.worker l.initial.seats.items l.seats.items;
  long : vec_len l.seats ≡ vec_len l.initial.seats;
  as_many : vec_len l.locals ≡ vec_len l.initial.locals;
}
