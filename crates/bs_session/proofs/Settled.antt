-- A turn that settles: what is left to say, what is done for it, and that the state stays sound.
use Rattle.std.proofs.Common.{◌≡◌, ℕ, ◌+◌, ◌-◌, ◌*◌, ◌<◌, ◌≤◌, Bool, true, false, List, [], ◌++◌, length, Option, Some, None, IsSomeAnd, MatchOption, Result, Ok, Err, IfOk, slice_get, slice_index_or, All, OnOk, refl, sym, ◌∙◌, ap, subst, arith}
use Rattle.std.proofs.lemmas.Bool.Decides.{nat_tests}
use Rattle.bs_tableau.specs.Words.{words}
use Rattle.bs_script.specs.Blocks.{ScriptLines, SessionLines}
use Rattle.bs_script.specs.declared.TheConstants.{MAX_COMMANDS}
use Rattle.std.proofs.lemmas.Option.{slice_get-get_or, get_or_from_slice_get}
use Rattle.bs_reply.specs.Lines.{error_line, same_line}
use Rattle.bs_tree.specs.Isomorphic.{isomorphic}
use Rattle.bs_tree.specs.Code.{tree_of}
use Rattle.bs_names.specs.Names.{at, Sets}
use Rattle.bs_command.specs.Errors.{error_number}
use Rattle.bs_names.specs.Known.{Known}
use Rattle.bs_command.specs.Commands.{Outcome, command}
use Rattle.bs_names.specs.Known.{tables_seen}
use Rattle.bs_session.specs.Replies.{session_replies}
use Rattle.bs_tableau.specs.Table.{Table}
use Rattle.bs_series.specs.Series.{Series}
use Rattle.bs_series.specs.Accepted.{Suits}
use Rattle.bs_names.specs.Space.{Space, known_of}
use Rattle.bs_command.specs.Changes.{known_after, IsApt, Says}
use Rattle.bs_eval.specs.Values.{IsMemory}
use Rattle.bs_session.specs.Needed.{IsBehind}
use Rattle.bs_session.specs.Listing.{session_listed}
use Rattle.bs_session.specs.Machine.{whole_run, run_left, lines_here, lines_left, State, no_session, session_at, commands_of, line_at, outcome_at, said, IsSound, IsAsked, AreNumbered, AreApart, IsTrueOf, is_yes, Takes, IsDone, plain_of, toil_behind, left}
use Rattle.bs_session.specs.Turns.{Applies, SettlesBy, Settles, IsQuiet, fits, accepted}
use Rattle.bs_session.specs.declared.TheConstants.{MAX_REPLIES}
use Rattle.bs_command.specs.declared.error.Error.{Error}
use Rattle.bs_names.specs.declared.live.LiveTree.{LiveTree}
use Rattle.bs_command.specs.declared.change.Change.{Change}
use Rattle.bs_command.specs.declared.change.Change.TheVariants.{Nothing, Name, Drop, Define}
use Rattle.bs_session.specs.declared.answer.Answer.{Answer}
use Rattle.bs_session.specs.declared.answer.Answer.TheVariants.{Go, Yes, No, Found, Missing}
use Rattle.bs_work.specs.declared.step.Step.{Step}
use Rattle.bs_work.specs.declared.step.Step.TheVariants.{Intern, Release, Same, Look, Keep, Done}
use Rattle.bs_session.specs.declared.asked.Asked.{Asked}
use Rattle.bs_session.specs.declared.asked.Asked.TheVariants as asked
use Rattle.bs_session.proofs.Sound.{numbered-named, apart-named, numbered-dropped, apart-dropped}
use Rattle.bs_session.proofs.Needed.{behind-next, behind-last, lines-turned}
use Rattle.bs_session.proofs.Interned.{interned-settled, interned-refused}
use Rattle.bs_session.proofs.Turns.{Turned, said-turned, toil-turned, turned-settled, turned-refused, with_live, with_reply, is_short, taken_by, settles-taken, rest-applied, known-applied}

-- ---- the names
pub record GoodNames (live : List (List ℕ × LiveTree)) (interned most : ℕ) : Type 0 where
  pub numbered : AreNumbered live interned
  pub apart : AreApart live
  pub few : interned ≤ most

good_same : (live : List (List ℕ × LiveTree)) (n : ℕ) → AreNumbered live n → AreApart live → GoodNames live n (n + 1)
good_same live n numbered apart = record { numbered = numbered; apart = apart; few = omega arith }

good_as : (old new : State) → new.space.live ≡ old.space.live → new.interned ≡ old.interned → AreNumbered old.space.live old.interned → AreApart old.space.live → GoodNames new.space.live new.interned (old.interned + 1)
good_as old new live interned numbered apart =
    rw (live, interned) (good_same old.space.live old.interned numbered apart)

good-applied : (change : Change) (taken new : State) (step : Option Step) → Applies change taken new step → AreNumbered taken.space.live taken.interned → AreApart taken.space.live → GoodNames new.space.live new.interned (taken.interned + 1)
good-applied Nothing taken new None a numbered apart = good_as taken new (ap (λ (s : State). s.space.live) a) (ap (λ (s : State). s.interned) a) numbered apart
good-applied Nothing taken new (Some (Intern tree c)) a numbered apart = absurd a
good-applied Nothing taken new (Some (Release tree)) a numbered apart = absurd a
good-applied Nothing taken new (Some (Same x y)) a numbered apart = absurd a
good-applied Nothing taken new (Some (Look id c)) a numbered apart = absurd a
good-applied Nothing taken new (Some (Keep id c v)) a numbered apart = absurd a
good-applied Nothing taken new (Some (Done reply)) a numbered apart = absurd a
good-applied (Name name code) taken new None a numbered apart = absurd a
good-applied (Name name code) taken new (Some (Intern tree c)) a numbered apart =
    let live : LiveTree = record { number = tree; code = code } in
    let n : new.interned ≡ taken.interned + 1 = ap (λ (s : State). s.interned) a.0 in
    rw n (record {
      numbered = numbered-named taken.space.live new.space.live name.now live taken.interned a.3 a.1 numbered;
      apart = apart-named taken.space.live new.space.live name.now live taken.interned a.3 a.1 numbered apart;
      few = omega arith;
    })
good-applied (Name name code) taken new (Some (Release tree)) a numbered apart = absurd a
good-applied (Name name code) taken new (Some (Same x y)) a numbered apart = absurd a
good-applied (Name name code) taken new (Some (Look id c)) a numbered apart = absurd a
good-applied (Name name code) taken new (Some (Keep id c v)) a numbered apart = absurd a
good-applied (Name name code) taken new (Some (Done reply)) a numbered apart = absurd a
good-applied (Drop name) taken new None a numbered apart = absurd a
good-applied (Drop name) taken new (Some (Intern tree c)) a numbered apart = absurd a
good-applied (Drop name) taken new (Some (Release tree)) a numbered apart =
    let n : new.interned ≡ taken.interned = ap (λ (s : State). s.interned) a.0 in
    rw n (record {
      numbered = numbered-dropped taken.space.live new.space.live name.now taken.interned a.2 numbered;
      apart = apart-dropped taken.space.live new.space.live name.now a.2 apart;
      few = omega arith;
    })
good-applied (Drop name) taken new (Some (Same x y)) a numbered apart = absurd a
good-applied (Drop name) taken new (Some (Look id c)) a numbered apart = absurd a
good-applied (Drop name) taken new (Some (Keep id c v)) a numbered apart = absurd a
good-applied (Drop name) taken new (Some (Done reply)) a numbered apart = absurd a
good-applied (Define name series) taken new None a numbered apart = good_as taken new (ap (λ (s : State). s.space.live) a.0) (ap (λ (s : State). s.interned) a.0) numbered apart
good-applied (Define name series) taken new (Some (Intern tree c)) a numbered apart = absurd a
good-applied (Define name series) taken new (Some (Release tree)) a numbered apart = absurd a
good-applied (Define name series) taken new (Some (Same x y)) a numbered apart = absurd a
good-applied (Define name series) taken new (Some (Look id c)) a numbered apart = absurd a
good-applied (Define name series) taken new (Some (Keep id c v)) a numbered apart = absurd a
good-applied (Define name series) taken new (Some (Done reply)) a numbered apart = absurd a

-- at most one tree more
more-applied : (change : Change) (taken new : State) (step : Option Step) → Applies change taken new step → length new.space.live ≤ length taken.space.live + 1
more-applied Nothing taken new None a =
    let e : length new.space.live ≡ length taken.space.live = ap (λ (s : State). length s.space.live) a in omega (arith, e)
more-applied Nothing taken new (Some (Intern tree c)) a = absurd a
more-applied Nothing taken new (Some (Release tree)) a = absurd a
more-applied Nothing taken new (Some (Same x y)) a = absurd a
more-applied Nothing taken new (Some (Look id c)) a = absurd a
more-applied Nothing taken new (Some (Keep id c v)) a = absurd a
more-applied Nothing taken new (Some (Done reply)) a = absurd a
more-applied (Name name code) taken new None a = absurd a
more-applied (Name name code) taken new (Some (Intern tree c)) a = omega (arith, a.4)
more-applied (Name name code) taken new (Some (Release tree)) a = absurd a
more-applied (Name name code) taken new (Some (Same x y)) a = absurd a
more-applied (Name name code) taken new (Some (Look id c)) a = absurd a
more-applied (Name name code) taken new (Some (Keep id c v)) a = absurd a
more-applied (Name name code) taken new (Some (Done reply)) a = absurd a
more-applied (Drop name) taken new None a = absurd a
more-applied (Drop name) taken new (Some (Intern tree c)) a = absurd a
more-applied (Drop name) taken new (Some (Release tree)) a = omega (arith, a.3)
more-applied (Drop name) taken new (Some (Same x y)) a = absurd a
more-applied (Drop name) taken new (Some (Look id c)) a = absurd a
more-applied (Drop name) taken new (Some (Keep id c v)) a = absurd a
more-applied (Drop name) taken new (Some (Done reply)) a = absurd a
more-applied (Define name series) taken new None a =
    let e : length new.space.live ≡ length taken.space.live = ap (λ (s : State). length s.space.live) a.0 in omega (arith, e)
more-applied (Define name series) taken new (Some (Intern tree c)) a = absurd a
more-applied (Define name series) taken new (Some (Release tree)) a = absurd a
more-applied (Define name series) taken new (Some (Same x y)) a = absurd a
more-applied (Define name series) taken new (Some (Look id c)) a = absurd a
more-applied (Define name series) taken new (Some (Keep id c v)) a = absurd a
more-applied (Define name series) taken new (Some (Done reply)) a = absurd a

more-settled : (b : Bool) (old : State) (text : List ℕ) (change : Change) (new : State) (step : Option Step) → SettlesBy b (taken_by b old text) change new step → length new.space.live ≤ length old.space.live + 1
more-settled true old text change new step s = more-applied change (taken_by true old text) new step s
more-settled false old text change new step s =
    let e : length new.space.live ≡ length old.space.live = ap (λ (t : State). length t.space.live) s.0 in omega (arith, e)

good-settled : (b : Bool) (old : State) (text : List ℕ) (change : Change) (new : State) (step : Option Step) → SettlesBy b (taken_by b old text) change new step → AreNumbered old.space.live old.interned → AreApart old.space.live → GoodNames new.space.live new.interned (old.interned + 1)
good-settled true old text change new step s numbered apart = good-applied change (taken_by true old text) new step s numbered apart
good-settled false old text change new step s numbered apart = good_as old new (ap (λ (t : State). t.space.live) s.0) (ap (λ (t : State). t.interned) s.0) numbered apart

-- ---- the other numbers
used-settled : (b : Bool) (old : State) (text : List ℕ) (change : Change) (new : State) (step : Option Step) → is_short old text ≡ b → SettlesBy b (taken_by b old text) change new step → old.used ≤ MAX_REPLIES → new.used ≤ MAX_REPLIES
used-settled true old text change new step short s used =
    let e : new.used ≡ old.used + length text = (rest-applied change (taken_by true old text) new step s).used in
    rw e (grind (arith, nat_tests, short))
used-settled false old text change new step long s used =
    let e : new.used ≡ old.used = ap (λ (t : State). t.used) s.0 in rw e used

asked-settled : (b : Bool) (old : State) (text : List ℕ) (change : Change) (new : State) (step : Option Step) → SettlesBy b (taken_by b old text) change new step → new.asked ≡ old.asked
asked-settled true old text change new step s = (rest-applied change (taken_by true old text) new step s).asked
asked-settled false old text change new step s = ap (λ (t : State). t.asked) s.0

book-settled : (b : Bool) (old : State) (text : List ℕ) (change : Change) (new : State) (step : Option Step) → SettlesBy b (taken_by b old text) change new step → new.space.book ≡ old.space.book
book-settled true old text change new step s = (rest-applied change (taken_by true old text) new step s).book
book-settled false old text change new step s = ap (λ (t : State). t.space.book) s.0

memory-settled : (b : Bool) (old : State) (text : List ℕ) (change : Change) (new : State) (step : Option Step) → SettlesBy b (taken_by b old text) change new step → new.memory ≡ old.memory
memory-settled true old text change new step s = (rest-applied change (taken_by true old text) new step s).memory
memory-settled false old text change new step s = ap (λ (t : State). t.memory) s.0

sound_idle : (script : ScriptLines) (s : State) → s.number < length script.sessions → length (commands_of script s) ≤ MAX_COMMANDS → s.place ≤ length (commands_of script s) → s.used ≤ MAX_REPLIES → GoodNames s.space.live s.interned s.place
    → Suits (plain_of script s) s.space.book → IsMemory (plain_of script s) s.space.book s.memory → s.asked ≡ asked.Nothing → IsBehind (whole_run script s) (run_left script s) s.interned → IsSound script s
sound_idle script s here few place used good suits memory idle run = record {
  here = here;
  few = few;
  place = place;
  interned = good.few;
  used = used;
  numbered = good.numbered;
  apart = good.apart;
  suits = suits;
  memory = memory;
  asked = rw idle tt;
  run = run;
}

more_names : (live : List (List ℕ × LiveTree)) (n m k : ℕ) → GoodNames live n m → m ≤ k → GoodNames live n k
more_names live n m k g h = record { numbered = g.numbered; apart = g.apart; few = omega (arith, g.few, h) }

commands_same : (script : ScriptLines) (old new : State) → new.number ≡ old.number → commands_of script new ≡ commands_of script old
commands_same script old new e = rw e refl

pub sound-turned : (script : ScriptLines) (old new : State) → IsSound script old → old.place < length (commands_of script old) → new.number ≡ old.number → new.place ≡ old.place + 1 → new.used ≤ MAX_REPLIES
    → GoodNames new.space.live new.interned (old.interned + 1) → new.space.book ≡ old.space.book → new.memory ≡ old.memory → new.asked ≡ asked.Nothing → IsBehind (whole_run script new) (run_left script new) new.interned → IsSound script new
sound-turned script old new sound more number place used good book memory idle run =
    sound_idle script new
    (rw number sound.here)
    (rw (commands_same script old new number) sound.few)
    (rw (commands_same script old new number, place) (omega (arith, more)))
    used
    (rw place (more_names new.space.live new.interned (old.interned + 1) (old.place + 1) good (omega (arith, sound.interned))))
    (rw (book, number) sound.suits)
    (rw (book, number, memory) sound.memory)
    idle
    run

-- ---- what is done for a turn
live_of : (o : Option LiveTree) (n : ℕ) → IsSomeAnd o (λ t. t.number ≡ n) → (t : LiveTree) × (o ≡ Some t) × (t.number ≡ n)
live_of None n h = absurd h
live_of (Some t) n h = (t, refl, h)

takes-applied : (script : ScriptLines) (old new taken : State) (answer : Known × List ℕ) (change : Change) (step : Option Step) → taken.space ≡ old.space → taken.interned ≡ old.interned → taken.asked ≡ asked.Nothing → taken.place ≡ old.place + 1
    → old.place < length (commands_of script old) → outcome_at script old ≡ Ok answer → known_of new.space ≡ answer.0 → IsApt old.space change
    → Applies change taken new step → MatchOption step (IsQuiet old new) (λ s. Takes script old new s × (¬ IsDone s))
takes-applied script old new taken answer Nothing None space interned idle place more outcome known apt a = record {
  live = ap (λ (s : State). s.space.live) a ∙ ap (λ (x : Space). x.live) space;
  interned = ap (λ (s : State). s.interned) a ∙ interned;
  asked = ap (λ (s : State). s.asked) a ∙ idle;
}
takes-applied script old new taken answer Nothing (Some (Intern tree c)) space interned idle place more outcome known apt a = absurd a
takes-applied script old new taken answer Nothing (Some (Release tree)) space interned idle place more outcome known apt a = absurd a
takes-applied script old new taken answer Nothing (Some (Same x y)) space interned idle place more outcome known apt a = absurd a
takes-applied script old new taken answer Nothing (Some (Look id c)) space interned idle place more outcome known apt a = absurd a
takes-applied script old new taken answer Nothing (Some (Keep id c v)) space interned idle place more outcome known apt a = absurd a
takes-applied script old new taken answer Nothing (Some (Done reply)) space interned idle place more outcome known apt a = absurd a
takes-applied script old new taken answer (Name name code) None space interned idle place more outcome known apt a = absurd a
takes-applied script old new taken answer (Name name code) (Some (Intern tree c)) space interned idle place more outcome known apt a =
    let rest = rest-applied (Name name code) taken new (Some (Intern tree c)) a in
    let at_place : new.place - 1 ≡ old.place = omega (arith, rest.place, place) in
    let named : outcome_at script old ≡ Ok (known_of new.space, answer.1) = outcome ∙ ap (λ (k : Known). Ok (k, answer.1)) (sym known) in
    let sets : Sets old.space.live new.space.live name.now (Some (record { number = tree; code = c })) = rw (← space, a.2) a.3 in (
      (
        record {
          name = name.now;
          next = a.1 ∙ interned;
          counted = ap (λ (s : State). s.interned) a.0 ∙ ap (λ n. n + 1) interned;
          free = apt;
          live = sets;
          line = line_at script old;
          read = rw at_place (slice_get-get_or (commands_of script old) old.place [] more);
          reply = answer.1;
          series = old.space.series;
          named = named;
        },
        rest.asked ∙ idle,
      ),
      λ done. done,
    )
takes-applied script old new taken answer (Name name code) (Some (Release tree)) space interned idle place more outcome known apt a = absurd a
takes-applied script old new taken answer (Name name code) (Some (Same x y)) space interned idle place more outcome known apt a = absurd a
takes-applied script old new taken answer (Name name code) (Some (Look id c)) space interned idle place more outcome known apt a = absurd a
takes-applied script old new taken answer (Name name code) (Some (Keep id c v)) space interned idle place more outcome known apt a = absurd a
takes-applied script old new taken answer (Name name code) (Some (Done reply)) space interned idle place more outcome known apt a = absurd a
takes-applied script old new taken answer (Drop name) None space interned idle place more outcome known apt a = absurd a
takes-applied script old new taken answer (Drop name) (Some (Intern tree c)) space interned idle place more outcome known apt a = absurd a
takes-applied script old new taken answer (Drop name) (Some (Release tree)) space interned idle place more outcome known apt a =
    let rest = rest-applied (Drop name) taken new (Some (Release tree)) a in
    let sets : Sets old.space.live new.space.live name.now None = rw (← space) a.2 in
    let found = live_of (at name.now taken.space.live) tree a.1 in (
      (
        record {
          name = name.now;
          given = found.0;
          was = rw (← space) found.1;
          is = found.2;
          gone = sets;
          counted = ap (λ (s : State). s.interned) a.0 ∙ interned;
        },
        rest.asked ∙ idle,
      ),
      λ done. done,
    )
takes-applied script old new taken answer (Drop name) (Some (Same x y)) space interned idle place more outcome known apt a = absurd a
takes-applied script old new taken answer (Drop name) (Some (Look id c)) space interned idle place more outcome known apt a = absurd a
takes-applied script old new taken answer (Drop name) (Some (Keep id c v)) space interned idle place more outcome known apt a = absurd a
takes-applied script old new taken answer (Drop name) (Some (Done reply)) space interned idle place more outcome known apt a = absurd a
takes-applied script old new taken answer (Define name series) None space interned idle place more outcome known apt a = record {
  live = ap (λ (s : State). s.space.live) a.0 ∙ ap (λ (x : Space). x.live) space;
  interned = ap (λ (s : State). s.interned) a.0 ∙ interned;
  asked = ap (λ (s : State). s.asked) a.0 ∙ idle;
}
takes-applied script old new taken answer (Define name series) (Some (Intern tree c)) space interned idle place more outcome known apt a = absurd a
takes-applied script old new taken answer (Define name series) (Some (Release tree)) space interned idle place more outcome known apt a = absurd a
takes-applied script old new taken answer (Define name series) (Some (Same x y)) space interned idle place more outcome known apt a = absurd a
takes-applied script old new taken answer (Define name series) (Some (Look id c)) space interned idle place more outcome known apt a = absurd a
takes-applied script old new taken answer (Define name series) (Some (Keep id c v)) space interned idle place more outcome known apt a = absurd a
takes-applied script old new taken answer (Define name series) (Some (Done reply)) space interned idle place more outcome known apt a = absurd a

quiet_of : (old new : State) → new.space.live ≡ old.space.live → new.interned ≡ old.interned → new.asked ≡ asked.Nothing → IsQuiet old new
quiet_of old new live interned asked = record { live = live; interned = interned; asked = asked }

pub takes-settled : (b : Bool) (script : ScriptLines) (old new : State) (answer : Known × List ℕ) (change : Change) (step : Option Step) → old.asked ≡ asked.Nothing
    → old.place < length (commands_of script old) → outcome_at script old ≡ Ok answer → answer.0 ≡ known_after old.space change → IsApt old.space change
    → SettlesBy b (taken_by b old answer.1) change new step → MatchOption step (IsQuiet old new) (λ s. Takes script old new s × (¬ IsDone s))
takes-settled true script old new answer change step idle more outcome is apt s =
    takes-applied script old new (taken_by true old answer.1) answer change step refl refl idle refl more outcome (known-applied change (taken_by true old answer.1) new step s ∙ sym is) apt s
takes-settled false script old new answer change step idle more outcome is apt s =
    rw s.1 (quiet_of old new (ap (λ (t : State). t.space.live) s.0) (ap (λ (t : State). t.interned) s.0) (ap (λ (t : State). t.asked) s.0 ∙ idle))

-- ---- a command that is carried out
-- what is left of commands, names and questions while the command at the place is carried out
abbrev pub left_here : ScriptLines → State → ℕ
left_here script s = 3 * (length (commands_of script s) - s.place) + length s.space.live + toil_behind script s

pub record Goes (script : ScriptLines) (old new : State) (step : Option Step) : Type 0 where
  pub said : said script new ≡ said script old
  pub takes : MatchOption step (IsQuiet old new) (λ s. Takes script old new s × (¬ IsDone s))
  pub sound : IsSound script new
  pub number : new.number ≡ old.number
  pub book : new.space.book ≡ old.space.book
  pub nearer : left script new < left_here script old
  pub listed : lines_left script old ≡ lines_here script old + lines_left script new

near_turned : (script : ScriptLines) (old new : State) → old.place < length (commands_of script old) → Turned (outcome_at script old) old new → length new.space.live ≤ length old.space.live + 1 → new.asked ≡ asked.Nothing → left script new < left_here script old
near_turned script old new more turned live idle =
    let toil = toil-turned script old new turned idle in
    let n : length (commands_of script new) ≡ length (commands_of script old) = ap (λ (c : List (List ℕ)). length c) (commands_same script old new turned.number) in
    let now : left script new ≡ 3 * (length (commands_of script old) - (old.place + 1)) + length new.space.live + 1 + toil_behind script old = rw (toil, idle, n, turned.place) refl in
    rw now (omega (arith, more, live))

pub goes-settled : (script : ScriptLines) (old new : State) (outcome : Outcome) (out : List ℕ) (change : Change) (step : Option Step) → IsSound script old → old.asked ≡ asked.Nothing → old.place < length (commands_of script old)
    → outcome_at script old ≡ outcome → Says old.space outcome old.out out change → Settles (length old.out) change (record old { out = out }) new step → Goes script old new step
goes-settled script old new (Err error) out change step sound idle more outcome says s = absurd says
goes-settled script old new (Ok answer) out change step sound idle more outcome says s =
    let s2 : Settles (length old.out) change (with_reply old answer.1) new step = subst (λ o. Settles (length old.out) change (record old { out = o }) new step) says.1 s in
    let by : SettlesBy (is_short old answer.1) (taken_by (is_short old answer.1) old answer.1) change new step = settles-taken old answer.1 change new step s2 in
    let turned : Turned (outcome_at script old) old new = rw outcome (turned-settled old answer change new step says.0 s2) in
    let asked = asked-settled (is_short old answer.1) old answer.1 change new step by ∙ idle in
    let book = book-settled (is_short old answer.1) old answer.1 change new step by in
    record {
      said = said-turned script old new more turned;
      takes = takes-settled (is_short old answer.1) script old new answer change step idle more outcome says.0 says.2 by;
      sound =
          sound-turned script old new sound more turned.number turned.place
          (used-settled (is_short old answer.1) old answer.1 change new step refl by sound.used)
          (good-settled (is_short old answer.1) old answer.1 change new step by sound.numbered sound.apart)
          book
          (memory-settled (is_short old answer.1) old answer.1 change new step by)
          asked
          (behind-next script old new more turned (interned-settled script old new answer change step outcome says.0 says.2 by) sound.run);
      number = turned.number;
      book = book;
      nearer = near_turned script old new more turned (more-settled (is_short old answer.1) old answer.1 change new step by) asked;
      listed = lines-turned script old new more turned;
    }

pub goes-refused : (script : ScriptLines) (old new : State) (error : Error) → IsSound script old → old.asked ≡ asked.Nothing → old.place < length (commands_of script old) → outcome_at script old ≡ Err error
    → new ≡ record old { out = old.out ++ error_line (error_number error); place = old.place + 1 } → Goes script old new None
goes-refused script old new error sound idle more outcome e =
    let turned : Turned (outcome_at script old) old new = rw outcome (turned-refused old new error e) in
    let live : new.space.live ≡ old.space.live = ap (λ (t : State). t.space.live) e in
    let book : new.space.book ≡ old.space.book = ap (λ (t : State). t.space.book) e in
    let interned : new.interned ≡ old.interned = ap (λ (t : State). t.interned) e in
    let used : new.used ≡ old.used = ap (λ (t : State). t.used) e in
    let asked : new.asked ≡ asked.Nothing = ap (λ (t : State). t.asked) e ∙ idle in
    let few : length new.space.live ≡ length old.space.live = ap (λ l. length l) live in
    record {
      said = said-turned script old new more turned;
      takes = quiet_of old new live interned asked;
      sound = sound-turned script old new sound more turned.number turned.place (rw used sound.used) (good_as old new live interned sound.numbered sound.apart) book (ap (λ (t : State). t.memory) e) asked (behind-next script old new more turned (interned-refused script old new error outcome interned) sound.run);
      number = turned.number;
      book = book;
      nearer = near_turned script old new more turned (omega (arith, few)) asked;
      listed = lines-turned script old new more turned;
    }

-- ---- the command at the place, as the code finds it
pub outcome-read : (script : ScriptLines) (s : State) (session : SessionLines) (line : List ℕ) → slice_get script.sessions s.number ≡ Some session → slice_get session.commands s.place ≡ Some line
    → command (tables_seen script session.above) (known_of s.space) (words line) ≡ outcome_at script s
outcome-read script s session line at_session at_line =
    let e : session_at script s.number ≡ session = get_or_from_slice_get script.sessions s.number session no_session at_session in
    let f : slice_index_or session.commands s.place [] ≡ line = get_or_from_slice_get session.commands s.place line [] at_line in
    let g : line_at script s ≡ line = ap (λ (x : SessionLines). slice_index_or x.commands s.place []) e ∙ f in
    sym (
    ap (λ (x : SessionLines). command (tables_seen script x.above) (known_of s.space) (words (line_at script s))) e
    ∙ ap (λ (l : List ℕ). command (tables_seen script session.above) (known_of s.space) (words l)) g
    )

-- ---- a tree that is given back at the end
pub sound-released : (script : ScriptLines) (old new : State) (name : List ℕ) → IsSound script old → old.asked ≡ asked.Nothing → old.place ≡ length (commands_of script old) → new ≡ record old { space = with_live old.space new.space.live } → Sets old.space.live new.space.live name None → IsSound script new
sound-released script old new name sound idle last e sets =
    let number : new.number ≡ old.number = ap (λ (t : State). t.number) e in
    let place : new.place ≡ old.place = ap (λ (t : State). t.place) e in
    let interned : new.interned ≡ old.interned = ap (λ (t : State). t.interned) e in
    let used : new.used ≡ old.used = ap (λ (t : State). t.used) e in
    let book : new.space.book ≡ old.space.book = ap (λ (t : State). t.space.book) e in
    let memory : new.memory ≡ old.memory = ap (λ (t : State). t.memory) e in
    let asked : new.asked ≡ asked.Nothing = ap (λ (t : State). t.asked) e ∙ idle in
    sound_idle script new
    (rw number sound.here)
    (rw (commands_same script old new number) sound.few)
    (rw (commands_same script old new number, place) sound.place)
    (rw used sound.used)
    (rw (interned, place) (record {
      numbered = numbered-dropped old.space.live new.space.live name old.interned sets sound.numbered;
      apart = apart-dropped old.space.live new.space.live name sets sound.apart;
      few = sound.interned;
    }))
    (rw (book, number) sound.suits)
    (rw (book, number, memory) sound.memory)
    asked
    (behind-last script old new number place last interned sound.run)

-- ---- a question
-- the state with another question
abbrev pub asking : State → Asked → State
asking s question = record s { asked = question }

pub sound-asking : (script : ScriptLines) (s : State) (question : Asked) → IsSound script s → IsAsked script (asking s question) question → IsSound script (asking s question)
sound-asking script s question sound asks = record {
  here = sound.here;
  few = sound.few;
  place = sound.place;
  interned = sound.interned;
  used = sound.used;
  numbered = sound.numbered;
  apart = sound.apart;
  suits = sound.suits;
  memory = sound.memory;
  asked = asks;
  run = sound.run;
}

-- ---- results
pub map_ok : {T E : Type 0} (P Q : T → Type 0) (r : Result T E) → ((x : T) → P x → Q x) → IfOk r P → IfOk r Q
map_ok P Q (Ok x) f h = f x h
map_ok P Q (Err e) f h = tt

-- ---- an answer
pub settles-nothing : (start : ℕ) (mid new : State) → new ≡ accepted start mid → Settles start Nothing mid new None
settles-nothing start mid new e = by (fits start mid)
  where
    by : (b : Bool) → SettlesBy b (accepted start mid) Nothing new None
    by true = e
    by false = (e, refl)

truthful-yes : (l r : LiveTree) (answer : Answer) → IsTrueOf l r answer → isomorphic (tree_of l.code) (tree_of r.code) ≡ is_yes answer
truthful-yes l r Go t = absurd t
truthful-yes l r Yes t = t
truthful-yes l r No t = t
truthful-yes l r (Found v) t = absurd t
truthful-yes l r Missing t = absurd t

pub asked-as : (script : ScriptLines) (s : State) (question : Asked) → s.asked ≡ question → IsSound script s → IsAsked script s question
asked-as script s question e sound = subst (λ q. IsAsked script s q) e sound.asked

-- the state with nothing asked
abbrev pub unasked : State → State
unasked s = asking s asked.Nothing

pub goes-compared : (script : ScriptLines) (old new : State) (l r : LiveTree) (answer : Answer) → IsSound script old → old.asked ≡ asked.Same l r → IsTrueOf l r answer
    → new ≡ accepted (length old.out) (record old { out = old.out ++ same_line (is_yes answer); asked = asked.Nothing }) → Goes script (unasked old) new None
goes-compared script old new l r answer sound same truthful e =
    let is = asked-as script old (asked.Same l r) same sound in
    let yes : isomorphic (tree_of l.code) (tree_of r.code) ≡ is_yes answer = truthful-yes l r answer truthful in
    let reply : Known × List ℕ = (known_of old.space, same_line (is_yes answer)) in
    let outcome : outcome_at script (unasked old) ≡ Ok reply = is.1.0 ∙ ap (λ (b : Bool). let o : Outcome = Ok (known_of old.space, same_line b) in o) yes in
    goes-settled script (unasked old) new (Ok reply) (old.out ++ same_line (is_yes answer)) Nothing None (sound-asking script old asked.Nothing sound tt) refl is.0 outcome (refl, refl, tt)
    (settles-nothing (length old.out) (record old { out = old.out ++ same_line (is_yes answer); asked = asked.Nothing }) new e)

-- ---- a step after turns that had nothing done
pub takes-after : (script : ScriptLines) (old mid new : State) (step : Step) → mid.number ≡ old.number → mid.space.live ≡ old.space.live → mid.interned ≡ old.interned → Takes script mid new step → Takes script old new step
takes-after script old mid new (Intern tree code) number live interned t =
    let i = t.0 in (
      record {
        name = i.name;
        next = i.next ∙ interned;
        counted = i.counted ∙ ap (λ n. n + 1) interned;
        free = rw (← live) i.free;
        live = rw (← live) i.live;
        line = i.line;
        read = rw (← number) i.read;
        reply = i.reply;
        series = i.series;
        named = rw (← number, ← live) i.named;
      },
      t.1,
    )
takes-after script old mid new (Release tree) number live interned t =
    let r = t.0 in (
      record {
        name = r.name;
        given = r.given;
        was = rw (← live) r.was;
        is = r.is;
        gone = rw (← live) r.gone;
        counted = r.counted ∙ interned;
      },
      t.1,
    )
takes-after script old mid new (Same x y) number live interned t = record {
  first = t.first;
  second = t.second;
  asked = t.asked;
  left_is = t.left_is;
  right_is = t.right_is;
  left_live = rw (← live) t.left_live;
  right_live = rw (← live) t.right_live;
  live = t.live ∙ live;
  counted = t.counted ∙ interned;
}
takes-after script old mid new (Look id code) number live interned t = record {
  asked = t.asked;
  is = t.is;
  needed = t.needed;
  live = t.live ∙ live;
  counted = t.counted ∙ interned;
}
takes-after script old mid new (Keep id code v) number live interned t = record {
  asked = t.asked;
  is = t.is;
  needed = t.needed;
  live = t.live ∙ live;
  counted = t.counted ∙ interned;
}
takes-after script old mid new (Done reply) number live interned t = (sym live ∙ t.0, t.1, t.2 ∙ interned, t.3, t.4, t.5)

-- ---- a state that only says more of memory
pub asked-failed : (script : ScriptLines) (s : State) (failed : Bool) (question : Asked) → IsAsked script s question → IsAsked script (record s { failed = failed }) question
asked-failed script s failed asked.Nothing is = tt
asked-failed script s failed (asked.Same l r) is = is
asked-failed script s failed asked.Value is = record { here = is.here; work = is.work; held = is.held; reply = is.reply; needs = is.needs; unlisted = is.unlisted }

pub sound-failed : (script : ScriptLines) (s : State) (failed : Bool) → IsSound script s → IsSound script (record s { failed = failed })
sound-failed script s failed sound = record {
  here = sound.here;
  few = sound.few;
  place = sound.place;
  interned = sound.interned;
  used = sound.used;
  numbered = sound.numbered;
  apart = sound.apart;
  suits = sound.suits;
  memory = sound.memory;
  asked = asked-failed script s failed s.asked sound.asked;
  run = sound.run;
}

pub map_on_ok : {T E : Type 0} (P Q : Type 0) (r : Result T E) → (P → Q) → OnOk r P → OnOk r Q
map_on_ok P Q (Ok x) f h = f h
map_on_ok P Q (Err e) f h = tt

-- ---- the start
pub sound-start : (script : ScriptLines) (s : State) → All (λ x. length x.commands ≤ MAX_COMMANDS) script.sessions → s.number < length script.sessions → s.place ≡ 0 → s.interned ≡ 0 → s.used ≡ 0
    → s.space.live ≡ [] → s.space.series ≡ [] → s.space.book ≡ [] → ((ts : List Table) (es : List Series) → IsMemory ts es s.memory) → s.asked ≡ asked.Nothing → IsSound script s
sound-start script s few here place interned used live series book memory idle =
    sound_idle script s here (few s.number no_session here) (omega (arith, place)) (omega (arith, used))
    (rw (live, interned, place) (record {
      numbered = λ name tree found. let at_none : at name [] ≡ Some tree = found in cc;
      apart = λ a b x y at_a at_b same. let at_none : at a [] ≡ Some x = at_a in cc;
      few = omega arith;
    }))
    (rw book tt)
    (memory (plain_of script s) s.space.book)
    idle
    (record { front = []; is = rw (place, used, live, series) refl; trees = interned })

pub said-start : (script : ScriptLines) (s : State) → s.place ≡ 0 → s.used ≡ 0 → s.out ≡ [] → s.space.live ≡ [] → s.space.series ≡ [] → said script s ≡ session_replies script (session_at script s.number)
said-start script s place used out live series = rw (place, used, out, live, series) refl

pub lines-start : (script : ScriptLines) (s : State) → s.place ≡ 0 → s.used ≡ 0 → s.space.live ≡ [] → s.space.series ≡ [] → lines_left script s ≡ session_listed script (session_at script s.number)
lines-start script s place used live series = rw (place, used, live, series) refl
