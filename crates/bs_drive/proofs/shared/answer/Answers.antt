use Rattle.std.proofs.Common.{◌∙◌, None, List, Option, sym, ap, subst}
use Rattle.bs_core.specs.declared.table.Held.{Held}
use Rattle.bs_alone.specs.Sheet.{Sheet}
use Rattle.bs_session.specs.Machine.{IsTruthful, found_of}
use Rattle.bs_session.specs.declared.answer.Answer.{Answer}
use Rattle.bs_work.specs.declared.step.Step.TheVariants.{Intern, Release, Same, Done}
use Rattle.bs_drive.specs.Once.{IsOnce}
use Rattle.bs_drive.specs.Shared.{AreHeld, code_in}
use Rattle.bs_drive.specs.Alone.{compared_codes}
use Rattle.bs_drive.proofs.Kept.{truthful-found}
use Rattle.bs_drive.proofs.Once.{once_tame, once_found, once_missed, once_kept}
use Rattle.bs_drive.proofs.Places.{held-intern, held-release, held-same, held-truthful}
use Rattle.bs_drive.proofs.Values.{found_is}
use Rattle.bs_drive.proofs.shared.answer.Goals as goal

pub returns-in_ok-add-in-Intern-clause-kept : goal.returns-in_ok-add-in-Intern-clause-kept
returns-in_ok-add-in-Intern-clause-kept g c = λ script old new held apart takes.
    let t = rw c.in-Intern.is at takes in
    held-intern script c.args.trees.now.items c.add.new.trees.items old new c.in-Intern.tree c.in-Intern.code held c.in_ok-add-in-Intern.ensures.added t.0

pub returns-in-Release-clause-kept : goal.returns-in-Release-clause-kept
returns-in-Release-clause-kept g c = λ script old new held apart takes.
    let t = rw c.in-Release.is at takes in
    subst (λ (trees : List (Option Held)). AreHeld trees new) (sym c.give_back.ensures.emptied) (held-release c.args.trees.now.items old new c.in-Release.tree held apart t.0)

pub returns-in-Same-clause-truthful : goal.returns-in-Same-clause-truthful
returns-in-Same-clause-truthful g c = λ script old new held fits book same takes.
    let t = rw c.in-Same.is at takes in
    let is = c.compared.ensures ∙ ap (λ (trees : List (Option Held)). compared_codes (code_in trees c.in-Same.left) (code_in trees c.in-Same.right)) c.deref.ensures.value in
    subst (λ (a : Answer). IsTruthful script new a) (sym is) (held-truthful script c.args.trees.now.items old new c.in-Same.left c.in-Same.right held t)

pub returns-in-Same-clause-kept : goal.returns-in-Same-clause-kept
returns-in-Same-clause-kept g c = λ script old new held apart takes.
    let t = rw c.in-Same.is at takes in
    held-same c.args.trees.now.items old new t.live t.counted held

pub returns-in-Some-clause-kept : goal.returns-in-Some-clause-kept
returns-in-Some-clause-kept g c = λ script old new held apart takes.
    let t = rw c.in-Look.is at takes in
    held-same c.args.trees.now.items old new t.live t.counted held

pub returns-in-Some-2-clause-truthful : goal.returns-in-Some-2-clause-truthful
returns-in-Some-2-clause-truthful g c = λ script old new held fits book same takes.
    let t = rw c.in-Look.is at takes in
    truthful-found script old new c.in-Look.series c.in-Look.code c.in-Some-2.coef t
    (found_is script new g.N.MemoName.tables c.args.book.now c.in_ok-coef-in-None.field-0 c.in-Some-2.coef c.in-Look.series c.in-Look.code same book t.is.0 c.in_ok-coef-in-None.ensures.value c.in-Some-2.is)

pub returns-in-Some-2-clause-kept : goal.returns-in-Some-2-clause-kept
returns-in-Some-2-clause-kept g c = λ script old new held apart takes.
    let t = rw c.in-Look.is at takes in
    held-same c.args.trees.now.items old new t.live t.counted held

pub returns-in-None-2-clause-kept : goal.returns-in-None-2-clause-kept
returns-in-None-2-clause-kept g c = λ script old new held apart takes.
    let t = rw c.in-Look.is at takes in
    held-same c.args.trees.now.items old new t.live t.counted held

pub returns-in_ok-remember-in-Keep-clause-kept : goal.returns-in_ok-remember-in-Keep-clause-kept
returns-in_ok-remember-in-Keep-clause-kept g c = λ script old new held apart takes.
    let t = rw c.in-Keep.is at takes in
    held-same c.args.trees.now.items old new t.live t.counted held

pub returns-in_ok-add-in-Intern-clause-once : goal.returns-in_ok-add-in-Intern-clause-once
returns-in_ok-add-in-Intern-clause-once g c = λ script old new ns given m k n once whole x distinct takes counts.
    once_tame ns old new given c.args.sheet.now m k n once x script None (Intern c.in-Intern.tree c.in-Intern.code) tt (rw c.in-Intern.is at takes) (rw c.in-Intern.is at counts)

pub returns-in-Release-clause-once : goal.returns-in-Release-clause-once
returns-in-Release-clause-once g c = λ script old new ns given m k n once whole x distinct takes counts.
    once_tame ns old new given c.args.sheet.now m k n once x script None (Release c.in-Release.tree) tt (rw c.in-Release.is at takes) (rw c.in-Release.is at counts)

pub returns-in-Same-clause-once : goal.returns-in-Same-clause-once
returns-in-Same-clause-once g c = λ script old new ns given m k n once whole x distinct takes counts.
    once_tame ns old new given c.args.sheet.now m k n once x script (found_of c.compared.result) (Same c.in-Same.left c.in-Same.right) tt (rw c.in-Same.is at takes) (rw c.in-Same.is at counts)

pub returns-in-Some-clause-once : goal.returns-in-Some-clause-once
returns-in-Some-clause-once g c = λ script old new ns given m k n once whole x distinct takes counts.
    once_found ns old new given c.args.sheet.now m k n once x c.in-Some.coef c.in-Look.series c.in-Look.code (rw c.in-Look.is at counts)

pub returns-in-Some-2-clause-once : goal.returns-in-Some-2-clause-once
returns-in-Some-2-clause-once g c = λ script old new ns given m k n once whole x distinct takes counts.
    once_found ns old new given c.args.sheet.now m k n once x c.in-Some-2.coef c.in-Look.series c.in-Look.code (rw c.in-Look.is at counts)

pub returns-in-None-2-clause-once : goal.returns-in-None-2-clause-once
returns-in-None-2-clause-once g c = λ script old new ns given m k n once whole x distinct takes counts.
    once_missed ns old new given c.args.sheet.now m k n once x script c.in-Look.series c.in-Look.code whole (rw c.in-Look.is at takes) (rw c.in-Look.is at counts) (sym c.look.ensures.value ∙ c.in-None.is)

pub returns-in_ok-remember-in-Keep-clause-once : goal.returns-in_ok-remember-in-Keep-clause-once
returns-in_ok-remember-in-Keep-clause-once g c = λ script old new ns given m k n once whole x distinct takes counts.
    subst (λ (sheet : Sheet). IsOnce ns new None sheet m n) (sym c.in_ok-keep-in-Keep.ensures.kept)
    (once_kept ns old new given c.args.sheet.now m k n once x script c.in-Keep.series c.in-Keep.code c.in-Keep.coef distinct c.order-order.ensures.code (rw c.in-Keep.is at takes) (rw c.in-Keep.is at counts))

pub returns-in-Done-clause-once : goal.returns-in-Done-clause-once
returns-in-Done-clause-once g c = λ script old new ns given m k n once whole x distinct takes counts.
    once_tame ns old new given c.args.sheet.now m k n once x script None (Done c.in-Done.reply) tt (rw c.in-Done.is at takes) (rw c.in-Done.is at counts)
