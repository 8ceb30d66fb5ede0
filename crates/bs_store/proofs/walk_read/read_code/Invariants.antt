use Rattle.std.proofs.Common.{◌≡◌, ◌-◌, length}
use Rattle.bs_tree.specs.declared.TheConstants.{MAX_NODES}
use Rattle.bs_core.specs.Machine.{code_at}
use Rattle.bs_store.specs.Reading.{Reads}
use Rattle.bs_store.proofs.walk_read.read_code.Given as goal

abbrev pub invariant-nodes : goal.invariant-nodes
invariant-nodes g l = record {
  reads : Reads (code_at l.fn.name (g.W.LinkSteps.seen l.initial.reader).pass.held) (g.W.LinkSteps.seen l.reader).pass.held (g.W.LinkSteps.seen l.reader).path l.pairs l.pending.items;
  pass : (g.W.LinkSteps.seen l.reader).pass ≡ (g.W.LinkSteps.seen l.initial.reader).pass;
}

abbrev pub decreases-nodes : goal.decreases-nodes
decreases-nodes g l = MAX_NODES - length l.pairs
