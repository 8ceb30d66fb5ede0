use Rattle.std.proofs.Common.{◌≡◌, IfSome, IfNone, None, [], sym, ◌∙◌, ap, subst, arith}
use Rattle.bs_work.specs.WorkCounted.{completed_on, work_waiting, work_waited, MovesOn}
use Rattle.bs_work.specs.WorkNeeded.{NeedsNoMore, KeepsNeed}
use Rattle.bs_work.proofs.Needed.{needs_then, keeps_then}
use Rattle.bs_work.proofs.work.Work.next.Goals as goal

pub returns-in-Some-clause-need : goal.returns-in-Some-clause-need
returns-in-Some-clause-need g c =
    let es = c.args.book.now in
    keeps_then es c.args.self.now c.coefficients.self c.turn.new.self c.in-Some.step c.coefficients.invariant.needs
    (subst (λ o. IfSome o (KeepsNeed es c.coefficients.self c.turn.new.self)) c.in-Some.is c.in_ok-step.ensures.need)

pub coefficients-preserved : goal.coefficients-preserved
coefficients-preserved g c =
    let es = c.args.book.now in
    let mid = c.coefficients.self in
    let new = c.turn.new.self in
    let step = c.in_ok-step.field-0 in
    let e = c.in_ok-step.ensures in
    let i = c.coefficients.invariant in
    let none : step ≡ None = c.in_default.is in
    let idle = subst (λ o. IfNone o (work_waited new None ≡ [])) none e.idle in
    let moves = subst (λ o. MovesOn (work_waited mid c.coefficients.found) o (work_waiting new)) none e.moves in
    let needs = subst (λ o. IfNone o (NeedsNoMore es mid new)) none e.needs in
    let kept : completed_on es step ≡ 0 = ap (completed_on es) none in
    record {
      reply = e.reply ∙ i.reply;
      work = e.work;
      held = e.held;
      memory = e.memory;
      handed = tt;
      counted = omega (arith, e.counted, i.counted, kept);
      waited = idle ∙ sym moves.0 ∙ i.waited;
      nearer = omega (arith, e.nearer, i.nearer);
      needs = needs_then es c.args.self.now mid new i.needs needs;
    }
