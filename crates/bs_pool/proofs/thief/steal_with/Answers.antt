use Rattle.std.proofs.Common.{◌<◌, sym, subst}
use Rattle.crossbeam_deque.specs.Handles.{view}
use Rattle.bs_pool.specs.declared.hand.Hand.{Hand}
use Rattle.bs_pool.proofs.Rules.{takes}
use Rattle.bs_pool.proofs.thief.steal_with.Goals as goal

pub steal_as-requires-clause-takes : goal.steal_as-requires-clause-takes
steal_as-requires-clause-takes g c = takes _ (view c.loop.pass) (subst (λ (v : Hand). 0 < v.parts) (sym c.loop.invariant.3) c.requires.share)
