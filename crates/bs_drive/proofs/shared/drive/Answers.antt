use Rattle.std.proofs.Common.{rules, ◌≡◌, ◌+◌, [], ℕ, List, refl, ◌∙◌, sym, ap, subst, arith}
use Rattle.bs_series.specs.Series.{Series}
use Rattle.bs_series.specs.Fronts.{IsSameOverFronts}
use Rattle.bs_session.specs.Needed.{session_need}
use Rattle.bs_session.specs.Listing.{session_listed}
use Rattle.bs_session.specs.Machine.{session_at, found_of, said, lines_left, Takes, IsDone}
use Rattle.bs_work.specs.declared.step.Step.{Step}
use Rattle.bs_work.specs.declared.step.Step.TheVariants.{Done}
use Rattle.bs_drive.specs.Once.{AreDistinct}
use Rattle.bs_drive.specs.Shared.{IsFor}
use Rattle.bs_drive.proofs.Kept.{said-more, done_is, fits-after}
use Rattle.bs_drive.proofs.Once.{first_once, rises_once}
use Rattle.bs_drive.proofs.Places.{beside_more, beside_none, none_held}
use Rattle.bs_drive.proofs.Values.{same_values, is_for}
use Rattle.bs_drive.proofs.shared.drive.Goals as goal

pub steps-init : goal.steps-init
steps-init g c = record {
  sound = search rules;
  truthful = search rules;
  said = search rules;
  held = none_held c.args.trees.now.items c.in_ok-session.session c.requires.none c.in_ok-session.ensures.none.0 c.in_ok-session.ensures.none.2;
  fits = search rules;
  number = search rules;
  once = first_once (session_need c.args.script.now (session_at c.args.script.now c.args.number)) c.in_ok-session.session c.new-sheet.result (c.args.steps.now + session_listed c.args.script.now (session_at c.args.script.now c.args.number))
      (c.args.steps.now + lines_left c.args.script.now c.in_ok-session.session) (ap (λ (n : ℕ). c.args.steps.now + n) c.in_ok-session.ensures.lines) c.in_ok-session.ensures.none.3;
  same = (refl, refl);
  beside = beside_none c.args.trees.now.items c.args.pass.now.held c.requires.none;
  gains = omega (arith, c.in_ok-session.ensures.none.2);
}

pub answer-requires-clause-apt : goal.answer-requires-clause-apt
answer-requires-clause-apt g c =
    let script = c.args.script.now in
    let new = c.next.new.self in
    let fronts : IsSameOverFronts new.space.book = subst (λ (es : List Series). IsSameOverFronts es) c.book-book.ensures c.serves_longer_lists.ensures in
    let same = same_values script new g.N.MemoName.tables c.requires.tables fronts c.in_ok-step.ensures.sound.suits in
    subst (λ (es : List Series). IsFor g.N.MemoName.tables es c.in_ok-step.step) (sym c.book-book.ensures)
    (is_for script c.steps.session new g.N.MemoName.tables c.in_ok-step.step same c.in_ok-step.ensures.takes)

pub steps-preserved : goal.steps-preserved
steps-preserved g c =
    let script = c.args.script.now in
    let step = c.in_ok-step.step in
    let old = c.steps.session in
    let new = c.next.new.self in
    let more : IsDone step → ⊥ = λ d. let r = done_is step d in c.in_default.not-Done r.0 r.1 in
    let number : new.number ≡ c.args.number = c.in_ok-step.ensures.number ∙ c.steps.invariant.number in
    let distinct : AreDistinct new.space.book = subst (λ (es : List Series). AreDistinct es) c.book-book.ensures c.ids_differ.ensures in
    let fronts : IsSameOverFronts new.space.book = subst (λ (es : List Series). IsSameOverFronts es) c.book-book.ensures c.serves_longer_lists.ensures in
    let same = same_values script new g.N.MemoName.tables c.requires.tables fronts c.in_ok-step.ensures.sound.suits in
    let fits = fits-after script old new c.steps.sheet c.in_ok-step.ensures.number c.in_ok-step.ensures.ids_stay c.steps.invariant.fits in
    record {
      sound = c.in_ok-step.ensures.sound;
      truthful = c.in_ok-given.ensures.truthful script old new c.steps.invariant.held fits c.book-book.ensures same c.in_ok-step.ensures.takes;
      said = said-more step (said script old) (said script new) more c.in_ok-step.ensures.said ∙ c.steps.invariant.said;
      held = c.in_ok-given.ensures.kept script old new c.steps.invariant.held c.steps.invariant.sound.apart c.in_ok-step.ensures.takes;
      fits = c.in_ok-given.ensures.fits script old new fits c.in_ok-step.ensures.takes;
      number = number;
      once = c.in_ok-given.ensures.once script old new (session_need script (session_at script c.args.number)) (found_of c.steps.given) (c.args.steps.now + session_listed script (session_at script c.args.number)) (c.steps.steps + lines_left script old) (c.next.new.steps + lines_left script new) c.steps.invariant.once (ap (λ (n : ℕ). session_need script (session_at script n)) (sym number)) c.in_ok-step.ensures.ids_stay distinct c.in_ok-step.ensures.takes c.in_ok-step.ensures.counts;
      same = (c.in_ok-given.ensures.same.0 ∙ c.steps.invariant.same.0, c.in_ok-given.ensures.same.1 ∙ c.steps.invariant.same.1);
      beside = beside_more [] c.steps.trees.items c.answer.new.trees.items c.args.pass.now.held c.steps.pass.held c.answer.new.pass.held c.steps.invariant.beside c.in_ok-given.ensures.beside;
      gains = let a = c.in_ok-given.ensures.gained script old new c.in_ok-step.ensures.takes in let b = c.steps.invariant.gains in omega arith;
    }

pub returns-in-Done-clause-once : goal.returns-in-Done-clause-once
returns-in-Done-clause-once g c =
    let script = c.args.script.now in
    let session = session_at script c.args.number in
    let old = c.steps.session in
    let new = c.next.new.self in
    let number : new.number ≡ c.args.number = c.in_ok-step.ensures.number ∙ c.steps.invariant.number in
    let distinct : AreDistinct new.space.book = subst (λ (es : List Series). AreDistinct es) c.book-book.ensures c.ids_differ.ensures in
    let done : Takes script old new (Done c.in-Done.reply) = subst (λ (s : Step). Takes script old new s) c.in-Done.is c.in_ok-step.ensures.takes in
    rises_once script session new (found_of c.in_ok-given.given) c.answer.new.sheet c.args.steps.now c.next.new.steps (lines_left script new)
    (c.in_ok-given.ensures.once script old new (session_need script session) (found_of c.steps.given) (c.args.steps.now + session_listed script session) (c.steps.steps + lines_left script old) (c.next.new.steps + lines_left script new) c.steps.invariant.once (ap (λ (n : ℕ). session_need script (session_at script n)) (sym number)) c.in_ok-step.ensures.ids_stay distinct c.in_ok-step.ensures.takes c.in_ok-step.ensures.counts)
    done.5 done.3
