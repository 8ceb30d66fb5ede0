use Rattle.std.proofs.Common.{rules, ◌≡◌, ◌+◌, ℕ, List, ◌∙◌, sym, ap, subst}
use Rattle.bs_series.specs.Series.{Series}
use Rattle.bs_session.specs.Needed.{session_need}
use Rattle.bs_session.specs.Listing.{session_listed}
use Rattle.bs_session.specs.Machine.{session_at, found_of, said, lines_left, Takes, IsDone}
use Rattle.bs_work.specs.declared.step.Step.{Step}
use Rattle.bs_work.specs.declared.step.Step.TheVariants.{Done}
use Rattle.bs_drive.proofs.Kept.{said-more, done_is, fits-after}
use Rattle.bs_drive.specs.Once.{AreDistinct}
use Rattle.bs_drive.proofs.Once.{first_once, rises_once}
use Rattle.bs_drive.proofs.alone.run_session_alone.Goals as goal

pub steps-preserved : goal.steps-preserved
steps-preserved g c =
    let script = c.args.script.now in
    let step = c.in_ok-step.step in
    let old = c.steps.session in
    let new = c.next.new.self in
    let more : IsDone step → ⊥ = λ d. let r = done_is step d in c.in_default.not-Done r.0 r.1 in
    let number : new.number ≡ c.args.number = c.in_ok-step.ensures.number ∙ c.steps.invariant.number in
    let distinct : AreDistinct new.space.book = subst (λ (es : List Series). AreDistinct es) c.book.ensures c.ids_differ.ensures in
    let fits = fits-after script old new c.steps.sheet c.in_ok-step.ensures.number c.in_ok-step.ensures.ids_stay c.steps.invariant.fits in
    record {
      sound = c.in_ok-step.ensures.sound;
      truthful = c.in_ok-given.ensures.truthful script old new c.steps.invariant.kept fits c.in_ok-step.ensures.takes;
      said = said-more step (said script old) (said script new) more c.in_ok-step.ensures.said ∙ c.steps.invariant.said;
      kept = c.in_ok-given.ensures.kept script old new c.steps.invariant.kept c.in_ok-step.ensures.takes;
      number = number;
      once = c.in_ok-given.ensures.once script old new (session_need script (session_at script c.args.number)) (found_of c.steps.given) (c.args.steps.now + session_listed script (session_at script c.args.number)) (c.steps.steps + lines_left script old) (c.next.new.steps + lines_left script new) c.steps.invariant.once (ap (λ (n : ℕ). session_need script (session_at script n)) (sym number)) c.in_ok-step.ensures.ids_stay distinct c.in_ok-step.ensures.takes c.in_ok-step.ensures.counts;
      fits = c.in_ok-given.ensures.fits script old new fits c.in_ok-step.ensures.takes;
    }

pub steps-init : goal.steps-init
steps-init g c = record {
  sound = search rules;
  truthful = search rules;
  said = search rules;
  kept = search rules;
  fits = search rules;
  number = search rules;
  once = first_once (session_need c.args.script.now (session_at c.args.script.now c.args.number)) c.in_ok-session.session c.new-sheet.result (c.args.steps.now + session_listed c.args.script.now (session_at c.args.script.now c.args.number))
      (c.args.steps.now + lines_left c.args.script.now c.in_ok-session.session) (ap (λ (n : ℕ). c.args.steps.now + n) c.in_ok-session.ensures.lines) c.in_ok-session.ensures.none.3;
}

pub returns-in-Done-clause-once : goal.returns-in-Done-clause-once
returns-in-Done-clause-once g c =
    let script = c.args.script.now in
    let session = session_at script c.args.number in
    let old = c.steps.session in
    let new = c.next.new.self in
    let number : new.number ≡ c.args.number = c.in_ok-step.ensures.number ∙ c.steps.invariant.number in
    let distinct : AreDistinct new.space.book = subst (λ (es : List Series). AreDistinct es) c.book.ensures c.ids_differ.ensures in
    let done : Takes script old new (Done c.in-Done.reply) = subst (λ (s : Step). Takes script old new s) c.in-Done.is c.in_ok-step.ensures.takes in
    rises_once script session new (found_of c.in_ok-given.given) c.answer.new.sheet c.args.steps.now c.next.new.steps (lines_left script new)
    (c.in_ok-given.ensures.once script old new (session_need script session) (found_of c.steps.given) (c.args.steps.now + session_listed script session) (c.steps.steps + lines_left script old) (c.next.new.steps + lines_left script new) c.steps.invariant.once (ap (λ (n : ℕ). session_need script (session_at script n)) (sym number)) c.in_ok-step.ensures.ids_stay distinct c.in_ok-step.ensures.takes c.in_ok-step.ensures.counts)
    done.5 done.3
