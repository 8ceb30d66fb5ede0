use Rattle.std.proofs.Common.{[], ◌∷◌, refl, ap}
use Rattle.crossbeam_deque.specs.Handles.{worker_view}
use Rattle.bs_pool.proofs.Grows.{thieves_took, took_then}
use Rattle.bs_pool.proofs.seat.Seat.other_job.Goals as goal

pub returns-in-Some-clause-took : goal.returns-in-Some-clause-took
returns-in-Some-clause-took g c =
    took_then [] (c.in-Some.job ∷ []) c.args.self.now c.loop-step.self _ c.loop-step.invariant.took
    (thieves_took (c.in-Some.job ∷ []) c.loop-step.self _ refl refl refl refl c.steal_at.ensures.crew c.in-Some.ensures.carried)

pub returns-in-Some-clause-own : goal.returns-in-Some-clause-own
returns-in-Some-clause-own g c = ap (λ w. worker_view w) c.loop-step.invariant.deque
