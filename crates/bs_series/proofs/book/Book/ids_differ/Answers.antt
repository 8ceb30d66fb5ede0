use Rattle.bs_series.proofs.Nodes.{only_at_seen}
use Rattle.bs_series.proofs.book.Book.ids_differ.Goals as goal

pub returns : goal.returns
returns c = λ i below. only_at_seen c.self.inside.nodes.items c.args.self.now i c.self.view_is c.self.invariant below
