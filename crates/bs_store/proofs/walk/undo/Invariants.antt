use Rattle.std.proofs.Common.{◌≡◌, length}
use Rattle.bs_core.specs.Codes.{children}
use Rattle.bs_store.specs.Walks.{SamePass, Undoing}
use Rattle.bs_store.proofs.walk.undo.Given as goal

abbrev pub invariant-undo : goal.invariant-undo
invariant-undo g l = record {
  undoing : Undoing (children l.code) l.initial.rest.items l.rest.items (g.W.NodeSteps.seen l.initial.pass).held (g.W.NodeSteps.seen l.pass).held;
  same : SamePass (g.W.NodeSteps.seen l.initial.pass) (g.W.NodeSteps.seen l.pass);
  gains : (g.W.NodeSteps.seen l.pass).gains ≡ (g.W.NodeSteps.seen l.initial.pass).gains;
}

abbrev pub decreases-undo : goal.decreases-undo
decreases-undo g l = length l.rest.items
