use Rattle.std.proofs.Common.{◌≡◌}
use Rattle.bs_core.specs.Machine.{code_at, pair}
use Rattle.bs_store.specs.Walks.{SamePass, Walks, orders}
use Rattle.bs_store.proofs.walk.release_all.Given as goal

abbrev pub invariant-walk : goal.invariant-walk
invariant-walk g l = record {
  walks : Walks (pair l.fn.name (code_at l.fn.name (g.W.NodeSteps.seen l.initial.pass).held)) (g.W.NodeSteps.seen l.initial.pass).held (g.W.NodeSteps.seen l.pass).held l.pending.items;
  same : SamePass (g.W.NodeSteps.seen l.initial.pass) (g.W.NodeSteps.seen l.pass);
  gains : (g.W.NodeSteps.seen l.pass).gains ≡ (g.W.NodeSteps.seen l.initial.pass).gains;
}

abbrev pub decreases-walk : goal.decreases-walk
decreases-walk g l = orders (g.W.NodeSteps.seen l.pass).held
