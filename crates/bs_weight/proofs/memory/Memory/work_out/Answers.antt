use Rattle.bs_weight.proofs.Remembering.{worked_out}
use Rattle.bs_weight.proofs.memory.Memory.work_out.Goals as goal

pub returns-clause-sums : goal.returns-clause-sums
returns-clause-sums c =
    worked_out c.args.self.now c.self.inside.table c.args.code.now c.pairs.result.now c.from-colour.result c.args.values.now c.edge_sums.result c.self.view_is c.pairs.ensures.value c.from-colour.ensures c.requires.values c.edge_sums.ensures.sums
