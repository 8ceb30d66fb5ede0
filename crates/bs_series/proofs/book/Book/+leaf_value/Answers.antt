use Rattle.std.proofs.Common.{sym, ◌∙◌, ap, arith}
use Rattle.bs_frac.specs.declared.coef.Coef.TheVariants.{Value}
use Rattle.bs_part.specs.Partition.{leaf}
use Rattle.bs_series.specs.Series.{Series}
use Rattle.bs_series.specs.Value.{written}
use Rattle.bs_series.proofs.Averages.{written_average}
use Rattle.bs_series.proofs.book.Book.+leaf_value.Goals as goal

pub returns-in-Average : goal.returns-in-Average
returns-in-Average t c =
    ap Value c.whole-in-Average.ensures
    ∙ sym (written_average leaf (omega arith))
    ∙ ap (λ (s : Series). written c.args.tables.now s leaf) c.in-Average.ensures.is
