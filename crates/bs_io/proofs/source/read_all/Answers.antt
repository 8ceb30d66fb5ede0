use Rattle.std.proofs.Common.{rules, arith}
use Rattle.bs_io.proofs.Joins.{TakesExactly-more, TakesAtMost-more}
use Rattle.bs_io.proofs.source.read_all.Goals as goal

pub returns-in_err-read_more-clause-too_long : goal.returns-in_err-read_more-clause-too_long
returns-in_err-read_more-clause-too_long g c = λ e.
    TakesExactly-more _ _ _ _ _ _ c.reads.invariant.taken (search rules) (omega (arith, c.reads.invariant.within)) (c.read_more.ensures.too_long (search rules))

pub returns-in_err-read_more-clause-at_most : goal.returns-in_err-read_more-clause-at_most
returns-in_err-read_more-clause-at_most g c = λ e.
    TakesAtMost-more _ _ _ _ _ _ c.reads.invariant.taken (search rules) c.reads.invariant.within (c.read_more.ensures.at_most (search rules))
