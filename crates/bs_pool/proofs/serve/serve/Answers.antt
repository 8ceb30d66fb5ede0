use Rattle.std.proofs.Common.{◌∙◌}
use Rattle.bs_pool.proofs.Grows.{grows}
use Rattle.bs_pool.proofs.serve.serve.Goals as goal

pub loop-preserved : goal.loop-preserved
loop-preserved g c =
    let i = c.loop.invariant in
    let e = c.do_job.ensures in (
      tt,
      tt,
      e.good,
      e.number ∙ i.3,
      e.done,
      grows c.in-Some-next_job.job c.args.seat.now c.loop.seat c.next_job.new.self c.do_job.new.seat i.5 c.in-Some-next_job.ensures e.did,
    )
