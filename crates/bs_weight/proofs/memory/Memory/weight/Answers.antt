use Rattle.std.proofs.Common.{◌∙◌}
use Rattle.bs_weight.proofs.Remembering.{weighed}
use Rattle.bs_weight.proofs.memory.Memory.weight.Goals as goal

pub returns-clause-value : goal.returns-clause-value
returns-clause-value c =
    c.root_sum.ensures.value
    ∙ weighed c.args.self.now c.self.inside.table c.args.code.now c.pairs.result.now c.from-colour.result c.stage_values-values.result (c.self.view_is ∙ c.stage_values-values.ensures.same)
    c.pairs.ensures.value c.from-colour.ensures c.stage_values-values.ensures.values
