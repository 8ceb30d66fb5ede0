use Rattle.std.proofs.Common.{◌≡◌, arith, refl, ap, subst}
use Rattle.bs_eval.specs.Counted.{begun, completed}
use Rattle.bs_work.specs.WorkCounted.{job_begun, work_begun}
use Rattle.bs_work.proofs.Counting.{done_begun}
use Rattle.bs_work.specs.Works.{IsJob}
use Rattle.bs_work.specs.WorkNeeded.{NeedsJob}
use Rattle.bs_work.proofs.Needed.{keeps_look, keeps_keep}
use Rattle.bs_work.proofs.work.Work.turn.Goals as goal

pub returns-in_ok-tell-in-Done-clause-work : goal.returns-in_ok-tell-in-Done-clause-work
returns-in_ok-tell-in-Done-clause-work g c =
    let tables = c.args.tables.now in
    let es = c.args.book.now in
    c.in_ok-tell-in-Done.ensures.work tables es (subst (IsJob tables es) c.in-Some.is c.requires.work).task

pub returns-in_ok-tell-in-Done-clause-held : goal.returns-in_ok-tell-in-Done-clause-held
returns-in_ok-tell-in-Done-clause-held g c = c.in_ok-tell-in-Done.ensures.held c.args.book.now c.next.new.memory

pub returns-in_ok-tell-in-Done-clause-counted : goal.returns-in_ok-tell-in-Done-clause-counted
returns-in_ok-tell-in-Done-clause-counted g c =
    let es = c.args.book.now in
    let e = c.in_ok-series-in-Some.ensures in
    let b : begun es c.next.new.self ≡ 0 = done_begun es c.in_ok-series-in-Some.field-0 c.in-Done.coef _ c.next.new.self c.in-Done.is e.moves in
    let k : completed es c.in_ok-series-in-Some.field-0 ≡ 0 = ap (completed es) c.in-Done.is in
    let j : work_begun es c.args.self.now ≡ begun es c.in-Some.job.eval = ap (job_begun es) c.in-Some.is in
    omega (arith, e.counted, b, k, j, c.in_ok-tell-in-Done.ensures.begun es)

pub returns-in_ok-tell-in-Done-clause-needs : goal.returns-in_ok-tell-in-Done-clause-needs
returns-in_ok-tell-in-Done-clause-needs g c =
    let es = c.args.book.now in record { needs = λ ns h. c.in_ok-tell-in-Done.ensures.needs es ns (subst (NeedsJob es ns) c.in-Some.is h).1 }

pub returns-in-Look-clause-need : goal.returns-in-Look-clause-need
returns-in-Look-clause-need g c =
    let es = c.args.book.now in
    keeps_look es _ _ c.in-Some.job c.next.new.self c.in_ok-series-in-Some.field-0 c.in-Look.series c.in-Look.code _ c.in-Some.is refl (subst (IsJob c.args.tables.now es) c.in-Some.is c.requires.work).asked c.in_ok-series-in-Some.ensures.fresh c.in-Look.is

pub returns-in-Keep-clause-need : goal.returns-in-Keep-clause-need
returns-in-Keep-clause-need g c = keeps_keep c.args.book.now _ _ c.in-Some.job c.next.new.self c.in-Keep.series c.in-Keep.code c.in-Keep.coef c.in-Some.is refl
