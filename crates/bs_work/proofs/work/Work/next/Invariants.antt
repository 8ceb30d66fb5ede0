use Rattle.std.proofs.Common.{◌≡◌, ◌≤◌, ◌+◌}
use Rattle.bs_work.specs.WorkNeeded.{NeedsNoMore}
use Rattle.bs_work.specs.WorkCounted.{work_begun, work_waited}
use Rattle.bs_eval.specs.Values.{IsMemory}
use Rattle.bs_work.specs.Works.{whole_reply, work_left, IsWork, IsHeldWork, IsHanded}
use Rattle.bs_work.proofs.work.Work.next.Given as goal

abbrev pub invariant-coefficients : goal.invariant-coefficients
invariant-coefficients g l = record {
  reply : whole_reply l.tables l.book l.self ≡ whole_reply l.tables l.book l.fn.self;
  work : IsWork l.tables l.book l.self;
  held : IsHeldWork l.book l.memory l.self;
  memory : IsMemory l.tables l.book l.memory;
  handed : IsHanded l.tables l.book l.self l.found;
  counted : l.steps + work_begun l.book l.fn.self ≡ l.initial.steps + work_begun l.book l.self;
  waited : work_waited l.self l.found ≡ work_waited l.fn.self l.initial.found;
  nearer : work_left l.book l.self ≤ work_left l.book l.fn.self;
  needs : NeedsNoMore l.book l.fn.self l.self;
}

abbrev pub decreases-coefficients : goal.decreases-coefficients
decreases-coefficients g l = work_left l.book l.self
