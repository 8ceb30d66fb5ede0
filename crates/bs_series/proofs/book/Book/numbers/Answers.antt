use Rattle.bs_series.proofs.Nodes.{reduced_kind}
use Rattle.bs_series.proofs.book.Book.numbers.Goals as goal

pub returns-clause-factors : goal.returns-clause-factors
returns-clause-factors c = reduced_kind c.self.inside.nodes.items c.args.self.now _ c.args.kind.now c.self.view_is c.self.invariant c.requires.operands c.factor_is_reduced.ensures
