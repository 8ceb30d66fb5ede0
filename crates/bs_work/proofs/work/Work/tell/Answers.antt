use Rattle.std.proofs.Common.{◌∙◌, IfSome, sym, subst}
use Rattle.bs_work.specs.Works.{IsTask}
use Rattle.bs_work.specs.WorkNeeded.{NeedsBehind}
use Rattle.bs_work.proofs.work.Work.tell.Goals as goal

pub returns-clause-work : goal.returns-clause-work
returns-clause-work c = λ tables es h.
    c.job_of.ensures.sound tables es (c.in_ok-next.ensures.sound es (subst (λ o. IfSome o (λ j. IsTask es j.task)) (sym c.take.ensures.value ∙ c.in-Some.is) h))

pub returns-clause-needs : goal.returns-clause-needs
returns-clause-needs c = λ es ns h.
    c.job_of.ensures.needs es ns (c.in_ok-next.ensures.needs es ns (subst (λ o. IfSome o (λ j. NeedsBehind es ns j.task)) (sym c.take.ensures.value ∙ c.in-Some.is) h))
