use Rattle.std.proofs.Common.{◌≡◌}
use Rattle.bs_pool.specs.Seats.{AllDone}
use Rattle.bs_pool.specs.Moves.{Grown}
use Rattle.bs_pool.proofs.serve.serve.Given as goal

abbrev pub invariant-loop : goal.invariant-loop
invariant-loop g l =
    (goal.iterator-loop g).can_next l.iterator' × (goal.iterator-loop g).is_finite l.iterator'
    × (g.W.Work.good l.work l.local)
    × (g.W.Work.number l.work l.local ≡ g.W.Work.number l.work l.initial.local)
    × AllDone (g.W.Work.answer l.work) l.seat
    × Grown l.initial.seat l.seat
