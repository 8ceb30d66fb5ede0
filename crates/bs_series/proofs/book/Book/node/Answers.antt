use Rattle.std.proofs.Common.{length, ap, arith}
use Rattle.bs_series.proofs.Nodes.{length-expressions, node_seen, only_at_seen}
use Rattle.bs_series.proofs.book.Book.node.Goals as goal

pub index-requires : goal.index-requires
index-requires c = omega (arith, c.requires, c.place.ensures, ap length c.self.view_is, length-expressions c.self.inside.nodes.items)

pub returns-clause-node : goal.returns-clause-node
returns-clause-node c = node_seen c.self.inside.nodes.items c.args.self.now c.place.result c.args.id c.index.result.now c.self.view_is c.self.invariant c.place.ensures c.requires c.index.ensures

pub returns-clause-once : goal.returns-clause-once
returns-clause-once c = only_at_seen c.self.inside.nodes.items c.args.self.now c.args.id c.self.view_is c.self.invariant c.requires
