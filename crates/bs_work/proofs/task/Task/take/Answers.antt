use Rattle.std.proofs.Common.{subst}
use Rattle.bs_work.specs.WorkNeeded.{NeedsBehind}
use Rattle.bs_work.proofs.task.Task.take.Goals as goal

pub returns-in_ok-write_line-in-Print-clause-needs : goal.returns-in_ok-write_line-in-Print-clause-needs
returns-in_ok-write_line-in-Print-clause-needs c = λ es ns h. c.printing.ensures.needs es ns (subst (NeedsBehind es ns) c.in-Print.is h)

pub returns-in-None-clause-needs : goal.returns-in-None-clause-needs
returns-in-None-clause-needs c = λ es ns h. c.comparing.ensures.needs es ns (subst (NeedsBehind es ns) c.in-Right.is h)
