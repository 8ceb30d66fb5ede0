use Rattle.bs_work.proofs.Jobs.{job-sound}
use Rattle.std.proofs.Common.{None}
use Rattle.bs_eval.specs.Counted.{waiting, opened}
use Rattle.bs_work.proofs.Counting.{none_before}
use Rattle.bs_work.proofs.work.job_of.Goals as goal

pub returns-in-Some-clause-sound : goal.returns-in-Some-clause-sound
returns-in-Some-clause-sound c = λ tables es h.
    job-sound tables es c.args.next c.in-Some.task c.start.result c.pair-series.result.0 c.pair-series.result.1 c.in-Some.is c.pair-series.ensures.series c.pair-series.ensures.code c.start.ensures.asked
    (λ p. c.start.ensures.sound tables es p.0 p.1) h

pub returns-in-Some-clause-waits : goal.returns-in-Some-clause-waits
returns-in-Some-clause-waits c = none_before (waiting c.start.result) (opened c.start.result None) (c.start.ensures.waits None)
