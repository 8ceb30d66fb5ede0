use Rattle.std.proofs.Common.{◌≡◌, ℕ, ◌+◌, ◌<◌, List, ◌++◌, arith, IfOk, Ok, Err, Option, Some, IfSome, Result, length, None, refl, sym, ◌∙◌, ap, subst}
use Rattle.bs_reply.specs.Lines.{error_line}
use Rattle.bs_tableau.specs.Words.{words}
use Rattle.bs_script.specs.Blocks.{ScriptLines}
use Rattle.bs_command.specs.Errors.{error_number}
use Rattle.bs_names.specs.Space.{known_of}
use Rattle.bs_command.specs.Toil.{toil_of}
use Rattle.bs_command.specs.Changes.{Says, Begins, Asks}
use Rattle.bs_names.specs.Space.{IsBookOf}
use Rattle.bs_command.specs.Commands.{Outcome}
use Rattle.bs_session.specs.Machine.{State, commands_of, outcome_at, line_at, need_here, lines_here, lines_left, plain_of, IsSound}
use Rattle.bs_session.specs.Turns.{Settles}
use Rattle.bs_session.specs.declared.asked.Asked.TheVariants as asked
use Rattle.bs_names.specs.declared.live.LiveTree.{LiveTree}
use Rattle.bs_work.specs.declared.step.Step.{Step}
use Rattle.bs_work.specs.declared.step.Step.TheVariants.{Same}
use Rattle.bs_command.specs.declared.error.Error.{Error}
use Rattle.bs_session.proofs.Settled.{goes-settled, goes-refused, asking, sound-asking, map_ok, map_on_ok}
use Rattle.bs_session.proofs.Goes.{GoesFrom, Alike, takes-alike, goes-from, goes-alike, grown, sound-grown, alike-grown, known-grown, sound-begun, alike-begun}
use Rattle.bs_session.specs.Counted.{Counts, IsTame}
use Rattle.bs_session.proofs.Counting.{begun_counts, counts_at, quiet_counts, question_counts, settles_tame}
use Rattle.bs_work.proofs.Counting.{idle_work}
use Rattle.bs_session.proofs.session.Session.turn.Given.{Over}
use Rattle.bs_session.proofs.session.Session.turn.Goals as goal

goes : (g : Over) (c : goal.After-settle g) → IfOk c.settle.result (λ step. GoesFrom c.args.script.now c.args.self.now c.settle.new.self (lines_here c.args.script.now c.args.self.now) step)
goes g c =
    let script = c.args.script.now in
    let old = c.args.self.now in
    let mid = c.carry.new.self in
    let change = c.in-Ok-Replied.change in
    let e = c.in-Ok-Replied.ensures in
    let before : State = grown old mid.space mid.work in
    let known = known-grown (plain_of script old) old.space mid.space e.book in
    let outcome : outcome_at script before ≡ outcome_at script old = rw known refl in
    let says : Says mid.space (outcome_at script before) old.out mid.out change = subst (λ (o : Outcome). Says mid.space o old.out mid.out change) (sym outcome) (rw c.in-Ok-Replied.field-0-is at e.carried) in
    let sound : IsSound script before = sound-grown script old mid.space mid.work c.requires.sound c.requires.idle e.book in
    map_ok
    (λ step. Settles c.written-start.result change mid c.settle.new.self step)
    (λ step. GoesFrom script old c.settle.new.self (lines_here script old) step)
    c.settle.result
    (λ step s.
    let s2 : Settles (length old.out) change mid c.settle.new.self step = subst (λ n. Settles n change mid c.settle.new.self step) c.written-start.ensures s in
    let s3 : Settles (length old.out) change (record before { out = mid.out }) c.settle.new.self step = subst (λ (t : State). Settles (length old.out) change t c.settle.new.self step) e.rest s2 in
    let g = goes-settled script before c.settle.new.self (outcome_at script before) mid.out change step sound c.requires.idle c.requires.more refl says s3 in
    let here : lines_here script before ≡ lines_here script old = rw known refl in
    goes-alike script old before c.settle.new.self (lines_here script old) step (alike-grown script old mid.space mid.work c.requires.idle e.book)
    (subst (λ (n : ℕ). GoesFrom script before c.settle.new.self n step) here (goes-from script before c.settle.new.self step c.requires.more g)))
    c.settle.ensures.settles

pub returns-in-Ok-Replied-clause-said : goal.returns-in-Ok-Replied-clause-said
returns-in-Ok-Replied-clause-said g c = map_ok _ _ c.settle.result (λ step g. g.said) (goes g c)

pub returns-in-Ok-Replied-clause-takes : goal.returns-in-Ok-Replied-clause-takes
returns-in-Ok-Replied-clause-takes g c = map_ok _ _ c.settle.result (λ step g. g.takes) (goes g c)

pub returns-in-Ok-Replied-clause-sound : goal.returns-in-Ok-Replied-clause-sound
returns-in-Ok-Replied-clause-sound g c = map_ok _ _ c.settle.result (λ step g. g.sound) (goes g c)

pub returns-in-Ok-Replied-clause-nearer : goal.returns-in-Ok-Replied-clause-nearer
returns-in-Ok-Replied-clause-nearer g c = map_ok _ _ c.settle.result (λ step g. g.nearer) (goes g c)

-- ---- a command that is refused
refuses : (script : ScriptLines) (old mid new : State) (error : Error) → IsSound script old → old.asked ≡ asked.Nothing → old.place < length (commands_of script old) → mid ≡ record old { out = mid.out; space = mid.space; work = mid.work }
    → IsBookOf (plain_of script old) old.space mid.space → mid.out ≡ old.out → outcome_at script old ≡ Err error
    → new ≡ record mid { out = mid.out ++ error_line (error_number error); place = mid.place + 1 } → GoesFrom script old new (lines_here script old) None
refuses script old mid new error sound idle more rest book unwritten refused e =
    let before : State = grown old mid.space mid.work in
    let same : mid ≡ before = rest ∙ ap (λ (o : List ℕ). let s : State = record old { out = o; space = mid.space; work = mid.work } in s) unwritten in
    let known = known-grown (plain_of script old) old.space mid.space book in
    let outcome_same : outcome_at script before ≡ outcome_at script old = rw known refl in
    let outcome : outcome_at script before ≡ Err error = outcome_same ∙ refused in
    let here : lines_here script before ≡ lines_here script old = rw known refl in
    let is = subst (λ (s : State). new ≡ record s { out = s.out ++ error_line (error_number error); place = s.place + 1 }) same e in
    let g = goes-refused script before new error (sound-grown script old mid.space mid.work sound idle book) idle more outcome is in
    goes-alike script old before new (lines_here script old) None (alike-grown script old mid.space mid.work idle book)
    (subst (λ (n : ℕ). GoesFrom script before new n None) here (goes-from script before new None more g))

pub returns-in_ok-refuse-in-Err-Refused-clause-sound :
    goal.returns-in_ok-refuse-in-Err-Refused-clause-sound
returns-in_ok-refuse-in-Err-Refused-clause-sound g c =
    let e = c.in-Err-Refused.ensures in
    (refuses c.args.script.now c.args.self.now c.carry.new.self c.refuse.new.self c.in-Err-Refused.error c.requires.sound c.requires.idle c.requires.more e.rest e.book e.unwritten (rw c.in-Err-Refused.field-0-is at e.refused)
    c.in_ok-refuse-in-Err-Refused.ensures).sound

pub returns-in_ok-refuse-in-Err-Refused-clause-counts :
    goal.returns-in_ok-refuse-in-Err-Refused-clause-counts
returns-in_ok-refuse-in-Err-Refused-clause-counts g c =
    let script = c.args.script.now in
    let old = c.args.self.now in
    let new = c.refuse.new.self in
    let m = c.args.steps.now in
    let n = c.carry.new.steps in
    let e = c.in-Err-Refused.ensures in
    let lists = rw c.in-Err-Refused.field-0-is at e.unlisted in
    let go = refuses script old c.carry.new.self new c.in-Err-Refused.error c.requires.sound c.requires.idle c.requires.more e.rest e.book e.unwritten (rw c.in-Err-Refused.field-0-is at e.refused) c.in_ok-refuse-in-Err-Refused.ensures in
    let k = m + lines_left script old in
    counts_at old new None k (n + lines_left script new) k k None refl (omega (arith, lists.0, lists.1, go.listed)) (quiet_counts old new script k None c.requires.idle go.takes tt)

-- ---- work that is begun
module _ (script : ScriptLines) (old mid : State) (idle : old.asked ≡ asked.Nothing) (more : old.place < length (commands_of script old))
    (rest : mid ≡ record old { out = mid.out; space = mid.space; work = mid.work }) (book : IsBookOf (plain_of script old) old.space mid.space)
    (carried : Begins (plain_of script old) mid.space (outcome_at script old) (toil_of (known_of old.space) (words (line_at script old))) (need_here script old) mid.work × (mid.out ≡ old.out)) (none : lines_here script old ≡ 0) where
  same_begun : mid ≡ grown old mid.space mid.work
  same_begun = rest ∙ ap (λ (o : List ℕ). let s : State = record old { out = o; space = mid.space; work = mid.work } in s) carried.1

  mid_sound : IsSound script old → IsSound script (asking mid asked.Value)
  mid_sound sound = subst (λ (s : State). IsSound script (asking s asked.Value)) (sym same_begun) (sound-begun script old mid.space mid.work _ sound more book carried.0 none)

  mid_alike : Alike script old (asking mid asked.Value)
  mid_alike = subst (λ (s : State). Alike script old (asking s asked.Value)) (sym same_begun) (alike-begun script old mid.space mid.work idle more book carried.0.left)

pub evaluate-requires-clause-sound : goal.evaluate-requires-clause-sound
evaluate-requires-clause-sound g c =
    let e = c.in-Ok-Begun.ensures in
    let carried = rw c.in-Ok-Begun.field-0-is at e.carried in
    let lists = rw c.in-Ok-Begun.field-0-is at e.lists in
    subst (λ (s : State). IsSound c.args.script.now (asking s asked.Value)) (sym c.self-in-Ok-Begun.view_is)
    (mid_sound c.args.script.now c.args.self.now c.carry.new.self c.requires.idle c.requires.more e.rest e.book carried lists.0 c.requires.sound)

pub returns-in-Ok-Begun-clause-takes : goal.returns-in-Ok-Begun-clause-takes
returns-in-Ok-Begun-clause-takes g c =
    let e = c.in-Ok-Begun.ensures in
    let carried = rw c.in-Ok-Begun.field-0-is at e.carried in
    let lists = rw c.in-Ok-Begun.field-0-is at e.lists in
    let alike = subst (λ (s : State). Alike c.args.script.now c.args.self.now (asking s asked.Value)) (sym c.self-in-Ok-Begun.view_is)
    (mid_alike c.args.script.now c.args.self.now c.carry.new.self c.requires.idle c.requires.more e.rest e.book carried lists.0) in
    map_ok _ _ c.evaluate.result (λ step t. takes-alike c.args.script.now c.args.self.now _ _ step alike t) c.evaluate.ensures.takes

pub returns-in-Ok-Begun-clause-nearer : goal.returns-in-Ok-Begun-clause-nearer
returns-in-Ok-Begun-clause-nearer g c =
    let e = c.in-Ok-Begun.ensures in
    let carried = rw c.in-Ok-Begun.field-0-is at e.carried in
    let lists = rw c.in-Ok-Begun.field-0-is at e.lists in
    let alike = subst (λ (s : State). Alike c.args.script.now c.args.self.now (asking s asked.Value)) (sym c.self-in-Ok-Begun.view_is)
    (mid_alike c.args.script.now c.args.self.now c.carry.new.self c.requires.idle c.requires.more e.rest e.book carried lists.0) in
    map_on_ok _ _ c.evaluate.result (λ h. omega (arith, h, alike.nearer)) c.evaluate.ensures.nearer

-- ---- a comparison that is asked for
asked_sound : (script : ScriptLines) (old mid : State) (l r : LiveTree) → lines_here script old ≡ 0 → old.asked ≡ asked.Nothing → old.place < length (commands_of script old) → mid ≡ record old { out = mid.out; space = mid.space; work = mid.work }
    → IsBookOf (plain_of script old) old.space mid.space → Asks mid.space (outcome_at script old) l r × (mid.out ≡ old.out) → IsSound script old → IsSound script (asking mid (asked.Same l r))
asked_sound script old mid l r none idle more rest book carried sound =
    let before : State = grown old mid.space mid.work in
    let same : mid ≡ before = rest ∙ ap (λ (o : List ℕ). let s : State = record old { out = o; space = mid.space; work = mid.work } in s) carried.1 in
    let known = known-grown (plain_of script old) old.space mid.space book in
    let outcome : outcome_at script before ≡ outcome_at script old = rw known refl in
    let lines : lines_here script before ≡ 0 = (let e : lines_here script before ≡ lines_here script old = rw known refl in e) ∙ none in
    let asks : Asks mid.space (outcome_at script before) l r = subst (λ (o : Outcome). Asks mid.space o l r) (sym outcome) carried.0 in
    subst (λ (s : State). IsSound script (asking s (asked.Same l r))) (sym same)
    (sound-asking script before (asked.Same l r) (sound-grown script old mid.space mid.work sound idle book) (more, asks, lines))

pub returns-in-Ok-Asked-clause-sound : goal.returns-in-Ok-Asked-clause-sound
returns-in-Ok-Asked-clause-sound g c =
    let e = c.in-Ok-Asked.ensures in
    let carried = rw c.in-Ok-Asked.field-0-is at e.carried in
    let lists = rw c.in-Ok-Asked.field-0-is at e.lists in
    subst (λ (s : State). IsSound c.args.script.now (asking s (asked.Same c.in-Ok-Asked.left c.in-Ok-Asked.right))) (sym c.self.view_is)
    (asked_sound c.args.script.now c.args.self.now c.carry.new.self c.in-Ok-Asked.left c.in-Ok-Asked.right lists.0 c.requires.idle c.requires.more e.rest e.book carried c.requires.sound)

pub returns-in-Ok-Begun-clause-counts : goal.returns-in-Ok-Begun-clause-counts
returns-in-Ok-Begun-clause-counts g c =
    let script = c.args.script.now in
    let old = c.args.self.now in
    let mid = c.carry.new.self in
    let mid2 = asking mid asked.Value in
    let new = c.evaluate.new.self in
    let m = c.args.steps.now + lines_left script old in
    let k = c.carry.new.steps + lines_left script mid2 in
    let n = c.evaluate.new.steps + lines_left script new in
    let e = c.in-Ok-Begun.ensures in
    let carried = rw c.in-Ok-Begun.field-0-is at e.carried in
    let lists = rw c.in-Ok-Begun.field-0-is at e.lists in
    let alike : Alike script old mid2 = mid_alike script old mid c.requires.idle c.requires.more e.rest e.book carried lists.0 in
    map_ok _ (λ step. Counts old new None m n step) c.evaluate.result
    (λ step h. counts_at old new None m n k n step (omega (arith, lists.1, alike.listed)) refl
    (begun_counts old mid2 new k n step c.requires.idle refl (idle_work mid.space.book mid.memory mid.work carried.0.held)
    (subst (λ (s : State). Counts (asking s asked.Value) new None (c.carry.new.steps + lines_left script (asking s asked.Value)) n step) c.self-in-Ok-Begun.view_is h))) c.evaluate.ensures.counts

both_ok : {T E : Type 0} (P Q : T → Type 0) (r : Result T E) → IfOk r P → IfOk r Q → IfOk r (λ x. P x × Q x)
both_ok P Q (Ok x) p q = (p, q)
both_ok P Q (Err e) p q = tt

pub returns-in-Ok-Replied-clause-counts : goal.returns-in-Ok-Replied-clause-counts
returns-in-Ok-Replied-clause-counts g c =
    let script = c.args.script.now in
    let old = c.args.self.now in
    let new = c.settle.new.self in
    let change = c.in-Ok-Replied.change in
    let m = c.args.steps.now + lines_left script old in
    let n = c.carry.new.steps + lines_left script new in
    let lists = rw c.in-Ok-Replied.field-0-is at c.in-Ok-Replied.ensures.lists in
    let From : Option Step → Type 0 = λ step. GoesFrom script old new (lines_here script old) step in
    let Tame : Option Step → Type 0 = λ step. IfSome step IsTame in
    let tame : IfOk c.settle.result Tame =
    map_ok (λ step. Settles c.written-start.result change c.carry.new.self new step) Tame c.settle.result (λ step s. settles_tame c.written-start.result change c.carry.new.self new step s) c.settle.ensures.settles in
    map_ok (λ step. From step × Tame step) (λ step. Counts old new None m n step) c.settle.result
    (λ step h. counts_at old new None m n m m step refl (omega (arith, lists, h.0.listed)) (quiet_counts old new script m step c.requires.idle h.0.takes h.1))
    (both_ok From Tame c.settle.result (goes g c) tame)

pub returns-in-Ok-Asked-clause-counts : goal.returns-in-Ok-Asked-clause-counts
returns-in-Ok-Asked-clause-counts g c =
    let script = c.args.script.now in
    let old = c.args.self.now in
    let mid = c.carry.new.self in
    let l = c.in-Ok-Asked.left in
    let r = c.in-Ok-Asked.right in
    let mid2 = asking mid (asked.Same l r) in
    let e = c.in-Ok-Asked.ensures in
    let lists = rw c.in-Ok-Asked.field-0-is at e.lists in
    let same : lines_left script mid ≡ lines_left script old = subst (λ (s : State). lines_left script s ≡ lines_left script old) (sym e.rest) (rw (e.book.live, e.book.series) refl) in
    subst (λ (s : State). Counts old (asking s (asked.Same l r)) None (c.args.steps.now + lines_left script old) (c.carry.new.steps + lines_left script (asking s (asked.Same l r))) (Some (Same l.number r.number))) (sym c.self.view_is)
    (question_counts old mid2 (c.args.steps.now + lines_left script old) (c.carry.new.steps + lines_left script mid2) l.number r.number l r c.requires.idle refl (omega (arith, lists.1, same)))
