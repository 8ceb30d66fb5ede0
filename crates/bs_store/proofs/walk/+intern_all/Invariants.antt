use Rattle.std.proofs.Common.{◌≡◌, ◌+◌, ◌≤◌, length}
use Rattle.bs_core.specs.Codes.{children}
use Rattle.bs_core.specs.Machine.{linked}
use Rattle.bs_store.specs.Walks.{SamePass, Mores, orders}
use Rattle.bs_store.proofs.walk.+intern_all.Given as goal

abbrev pub decreases-intern_all : goal.decreases-intern_all
decreases-intern_all g l = length l.code.now

abbrev pub invariant-children : goal.invariant-children
invariant-children g l = record {
  all : length l.names.items ≡ l.place;
  pairs : Mores (linked l.names.items (children l.code)) (g.W.NodeSteps.seen l.initial.pass).held (g.W.NodeSteps.seen l.pass).held;
  same : SamePass (g.W.NodeSteps.seen l.initial.pass) (g.W.NodeSteps.seen l.pass);
  kept : (g.W.NodeSteps.seen l.initial.pass).gains ≤ (g.W.NodeSteps.seen l.pass).gains;
  most : (g.W.NodeSteps.seen l.pass).gains ≤ (g.W.NodeSteps.seen l.initial.pass).gains + orders (linked l.names.items (children l.code));
}
