use Rattle.bs_series.specs.Expressions.{series_at}
use Rattle.bs_work.specs.Needed.{need_at}
use Rattle.bs_work.proofs.work.Work.coeff.Goals as goal

pub returns-clause-work : goal.returns-clause-work
returns-clause-work c = λ tables. c.job_of.ensures.sound tables c.args.book.now (tt, (c.requires.known, c.requires.coloured))

pub returns-clause-needs : goal.returns-clause-needs
returns-clause-needs c =
    let es = c.args.book.now in
    c.job_of.ensures.needs es (need_at (series_at es c.args.series) c.args.code) (record { reads = λ p h. h }, tt)
