use Rattle.std.proofs.Common.{◌∙◌, sym}
use Rattle.bs_frac.proofs.Texts.{read_minus, read_plain}
use Rattle.bs_frac.proofs.frac.Frac.read.Goals as goal

pub returns-then-starts_with_minus-clause-value : goal.returns-then-starts_with_minus-clause-value
returns-then-starts_with_minus-clause-value c =
    c.reduced.ensures.value ∙ read_minus c.args.word.now c.magnitudes.result (sym c.if-starts_with_minus.true ∙ c.starts_with_minus.ensures.minus) c.magnitudes.ensures.value

pub returns-else-starts_with_minus-clause-value : goal.returns-else-starts_with_minus-clause-value
returns-else-starts_with_minus-clause-value c =
    c.reduced-else-starts_with_minus.ensures.value
    ∙ read_plain c.args.word.now c.magnitudes-else-starts_with_minus.result (sym c.if-starts_with_minus.false ∙ c.starts_with_minus.ensures.minus) c.magnitudes-else-starts_with_minus.ensures.value
