use Rattle.bs_series.proofs.Nodes.{NotBefore}
use Rattle.bs_series.proofs.book.Book.find.Given as goal

abbrev pub invariant-nodes : goal.invariant-nodes
invariant-nodes l = NotBefore l.place l.node-items l.fn.kind
