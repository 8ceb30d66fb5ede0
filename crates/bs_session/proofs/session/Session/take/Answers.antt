use Rattle.std.proofs.Common.{rules, refl, None, ◌+◌, arith, ◌≡◌, Bool, ◌++◌, length, subst}
use Rattle.bs_reply.specs.Lines.{same_line}
use Rattle.bs_session.specs.Machine.{plain_of, lines_left, found_of, is_yes, IsTrueOf, IsTruthfulOf}
use Rattle.bs_session.specs.Turns.{accepted}
use Rattle.bs_session.specs.declared.asked.Asked.{Asked}
use Rattle.bs_session.specs.declared.asked.Asked.TheVariants as asked
use Rattle.bs_session.proofs.Settled.{goes-compared, asked-as}
use Rattle.bs_session.proofs.Counting.{counts_at, compared_counts}
use Rattle.bs_session.proofs.session.Session.take.Goals as goal

pub returns-in_ok-compared-in-Same-clause-sound : goal.returns-in_ok-compared-in-Same-clause-sound
returns-in_ok-compared-in-Same-clause-sound g c =
    let script = c.args.script.now in
    let old = c.args.self.now in
    let new = c.compared.new.self in
    let l = c.in-Same.left in
    let r = c.in-Same.right in
    let is : old.asked ≡ asked.Same l r = search rules in
    let t : IsTrueOf l r c.args.answer = subst (λ (q : Asked). IsTruthfulOf (plain_of script old) old.space.book old.work q c.args.answer) is c.requires.truthful in
    let e : new ≡ accepted (length old.out) (record old { out = old.out ++ same_line (is_yes c.args.answer); asked = asked.Nothing }) =
    subst (λ (y : Bool). new ≡ accepted (length old.out) (record old { out = old.out ++ same_line y; asked = asked.Nothing })) c.is_yes.ensures c.in_ok-compared-in-Same.ensures in
    (goes-compared script old new l r c.args.answer c.requires.sound is t e).sound

pub returns-in_ok-compared-in-Same-clause-counts : goal.returns-in_ok-compared-in-Same-clause-counts
returns-in_ok-compared-in-Same-clause-counts g c =
    let script = c.args.script.now in
    let old = c.args.self.now in
    let new = c.compared.new.self in
    let l = c.in-Same.left in
    let r = c.in-Same.right in
    let is : old.asked ≡ asked.Same l r = search rules in
    let t : IsTrueOf l r c.args.answer = subst (λ (q : Asked). IsTruthfulOf (plain_of script old) old.space.book old.work q c.args.answer) is c.requires.truthful in
    let e : new ≡ accepted (length old.out) (record old { out = old.out ++ same_line (is_yes c.args.answer); asked = asked.Nothing }) =
    subst (λ (y : Bool). new ≡ accepted (length old.out) (record old { out = old.out ++ same_line y; asked = asked.Nothing })) c.is_yes.ensures c.in_ok-compared-in-Same.ensures in
    let go = goes-compared script old new l r c.args.answer c.requires.sound is t e in
    let none = (asked-as script old (asked.Same l r) is c.requires.sound).2 in
    let m = c.args.steps.now + lines_left script old in
    counts_at old new (found_of c.args.answer) m (c.args.steps.now + lines_left script new) m m None refl (omega (arith, none, go.listed)) (compared_counts old new (found_of c.args.answer) m l r is go.takes.asked)
