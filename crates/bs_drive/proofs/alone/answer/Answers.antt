use Rattle.bs_alone.specs.Sheet.{Sheet}
use Rattle.bs_work.specs.declared.step.Step.TheVariants.{Intern, Release, Same, Done}
use Rattle.std.proofs.Common.{◌≡◌, None, sym, ◌∙◌, ap, subst, inl, inr}
use Rattle.bs_session.specs.Machine.{IsTruthful}
use Rattle.bs_session.specs.declared.answer.Answer.{Answer}
use Rattle.bs_drive.specs.Alone.{compared}
use Rattle.bs_drive.proofs.Kept.{kept-intern, kept-release, kept-same, truthful-same}
use Rattle.bs_session.specs.Machine.{found_of}
use Rattle.bs_drive.specs.Once.{IsOnce}
use Rattle.bs_drive.proofs.Once.{once_tame, once_found, once_missed, once_kept}
use Rattle.bs_drive.proofs.alone.answer.Goals as goal

pub returns-in_ok-push-in-Intern-clause-kept : goal.returns-in_ok-push-in-Intern-clause-kept
returns-in_ok-push-in-Intern-clause-kept c = λ script old new kept takes.
    let t = rw c.in-Intern.is at takes in
    rw c.in_ok-push-in-Intern.ensures.items (kept-intern script c.args.codes.now.items old new _ c.in-Intern.code kept t.0)

pub returns-in-Same-clause-truthful : goal.returns-in-Same-clause-truthful
returns-in-Same-clause-truthful c = λ script old new kept fits takes.
    let t = rw c.in-Same.is at takes in
    let truthful = truthful-same script c.args.codes.now.items old new c.in-Same.left c.in-Same.right kept t in
    let is : compared c.args.codes.now.items c.in-Same.left c.in-Same.right ≡ c.compared.result = sym (c.compared.ensures ∙ ap (λ codes. compared codes c.in-Same.left c.in-Same.right) c.deref.ensures.value) in
    subst (λ (a : Answer). IsTruthful script new a) is truthful

pub returns-in-Same-clause-kept : goal.returns-in-Same-clause-kept
returns-in-Same-clause-kept c = λ script old new kept takes.
    let t = rw c.in-Same.is at takes in
    kept-same c.args.codes.now.items old new t.live t.counted kept

pub returns-in-Some-clause-kept : goal.returns-in-Some-clause-kept
returns-in-Some-clause-kept c = λ script old new kept takes.
    let t = rw c.in-Look.is at takes in
    kept-same c.args.codes.now.items old new t.live t.counted kept

pub returns-in-None-clause-kept : goal.returns-in-None-clause-kept
returns-in-None-clause-kept c = λ script old new kept takes.
    let t = rw c.in-Look.is at takes in
    kept-same c.args.codes.now.items old new t.live t.counted kept

pub returns-in_ok-keep-in-Keep-clause-kept : goal.returns-in_ok-keep-in-Keep-clause-kept
returns-in_ok-keep-in-Keep-clause-kept c = λ script old new kept takes.
    let t = rw c.in-Keep.is at takes in
    kept-same c.args.codes.now.items old new t.live t.counted kept

pub returns-in-Release-clause-kept : goal.returns-in-Release-clause-kept
returns-in-Release-clause-kept c = λ script old new kept takes.
    elim c.in-Release.is [
      | inl w ↦ let t = rw w.1 at takes in kept-release c.args.codes.now.items old new w.0 kept t.0
      | inr w ↦ let t = rw w.1 at takes in kept-same c.args.codes.now.items old new (t.1 ∙ sym t.0) t.2 kept
    ]

pub returns-in_ok-push-in-Intern-clause-once : goal.returns-in_ok-push-in-Intern-clause-once
returns-in_ok-push-in-Intern-clause-once c = λ script old new ns given m k n once whole x distinct takes counts.
    once_tame ns old new given c.args.sheet.now m k n once x script None (Intern c.in-Intern.tree c.in-Intern.code) tt (rw c.in-Intern.is at takes) (rw c.in-Intern.is at counts)

pub returns-in-Same-clause-once : goal.returns-in-Same-clause-once
returns-in-Same-clause-once c = λ script old new ns given m k n once whole x distinct takes counts.
    once_tame ns old new given c.args.sheet.now m k n once x script (found_of c.compared.result) (Same c.in-Same.left c.in-Same.right) tt (rw c.in-Same.is at takes) (rw c.in-Same.is at counts)

pub returns-in-Some-clause-once : goal.returns-in-Some-clause-once
returns-in-Some-clause-once c = λ script old new ns given m k n once whole x distinct takes counts.
    once_found ns old new given c.args.sheet.now m k n once x c.in-Some.coef c.in-Look.series c.in-Look.code (rw c.in-Look.is at counts)

pub returns-in-None-clause-once : goal.returns-in-None-clause-once
returns-in-None-clause-once c = λ script old new ns given m k n once whole x distinct takes counts.
    once_missed ns old new given c.args.sheet.now m k n once x script c.in-Look.series c.in-Look.code whole (rw c.in-Look.is at takes) (rw c.in-Look.is at counts) (sym c.look.ensures.value ∙ c.in-None.is)

pub returns-in_ok-keep-in-Keep-clause-once : goal.returns-in_ok-keep-in-Keep-clause-once
returns-in_ok-keep-in-Keep-clause-once c = λ script old new ns given m k n once whole x distinct takes counts.
    subst (λ (sheet : Sheet). IsOnce ns new None sheet m n) (sym c.in_ok-keep-in-Keep.ensures.kept)
    (once_kept ns old new given c.args.sheet.now m k n once x script c.in-Keep.series c.in-Keep.code c.in-Keep.coef distinct c.order-order.ensures.code (rw c.in-Keep.is at takes) (rw c.in-Keep.is at counts))

pub returns-in-Release-clause-once : goal.returns-in-Release-clause-once
returns-in-Release-clause-once c = λ script old new ns given m k n once whole x distinct takes counts.
    elim c.in-Release.is [
      | inl w ↦ once_tame ns old new given c.args.sheet.now m k n once x script None (Release w.0) tt (rw w.1 at takes) (rw w.1 at counts)
      | inr w ↦ once_tame ns old new given c.args.sheet.now m k n once x script None (Done w.0) tt (rw w.1 at takes) (rw w.1 at counts)
    ]
