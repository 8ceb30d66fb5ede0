use Rattle.std.proofs.Common.{◌∙◌}
use Rattle.bs_drive.proofs.Kept.{fits-after}
use Rattle.bs_drive.proofs.tests.worked_out.Goals as goal

pub steps-preserved : goal.steps-preserved
steps-preserved g c =
    let script = c.args.script.now in
    let old = c.steps.session in
    let new = c.next.new.self in
    let fits = fits-after script old new c.steps.sheet c.in_ok-step.ensures.number c.in_ok-step.ensures.ids_stay c.steps.invariant.fits in
    record {
      sound = c.in_ok-step.ensures.sound;
      truthful = c.in_ok-given.ensures.truthful script old new c.steps.invariant.kept fits c.in_ok-step.ensures.takes;
      kept = c.in_ok-given.ensures.kept script old new c.steps.invariant.kept c.in_ok-step.ensures.takes;
      number = c.in_ok-step.ensures.number ∙ c.steps.invariant.number;
      fits = c.in_ok-given.ensures.fits script old new fits c.in_ok-step.ensures.takes;
    }
