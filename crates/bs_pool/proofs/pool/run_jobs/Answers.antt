use Rattle.std.proofs.Common.{◌≡◌, ap, sym, subst, ◌∙◌, arith, length}
use Rattle.bs_pool.specs.Answers.{AreAnswers}
use Rattle.bs_pool.specs.Hands.{below}
use Rattle.bs_pool.specs.Moves.{Home}
use Rattle.bs_pool.proofs.Once.{manned, once}
use Rattle.bs_pool.proofs.Answered.{if_ok_mono}
use Rattle.bs_pool.proofs.pool.run_jobs.Goals as goal

pub recall-requires : goal.recall-requires
recall-requires g c = manned c.args.jobs c.in-Ok.made.0.items c.work_together.new.seats.items c.in-Ok.ensures.seats.1 c.work_together.ensures.grown

pub gather-answers-requires-clause-once : goal.gather-answers-requires-clause-once
gather-answers-requires-clause-once g c = λ none x.
    let home : Home (length c.work_together.new.seats.items) c.work_together.new.seats.items c.recall.new.seats.items =
    subst (λ n. Home n c.work_together.new.seats.items c.recall.new.seats.items) (let o = c.work_together.new.seats.ok.0 in let p : c.work_together.new.seats.len ≡ length c.work_together.new.seats.items = omega arith in p) c.recall.ensures in
    once c.args.jobs c.in-Ok.made.0.items c.work_together.new.seats.items c.recall.new.seats.items c.serve_left.new.seats.items c.in-Ok.ensures.seats.1 c.work_together.ensures.grown home c.serve_left.ensures.ended none x
    ∙ ap (below x) (sym c.in-Ok.ensures.places.0)

pub returns-clause-each_job_answered : goal.returns-clause-each_job_answered
returns-clause-each_job_answered g c = if_ok_mono _ _ c.gather-answers.result
    (λ v h. subst (λ n. AreAnswers (g.W.Work.answer c.args.work.now) n v.items) c.in-Ok.ensures.places.0 (h (g.W.Work.answer c.args.work.now) c.serve_left.ensures.done)) c.gather-answers.ensures
