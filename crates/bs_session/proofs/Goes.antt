-- A turn as a whole: what is said, what is done for it, that the state stays sound, and that less is left.
use Rattle.std.proofs.Common.{◌≡◌, ℕ, ◌+◌, ◌-◌, ◌*◌, ◌<◌, ◌≤◌, List, [], ◌∷◌, ◌++◌, length, drop, Option, Some, None, is_some, not, Bool, true, false, MatchOption, Ok, refl, sym, ◌∙◌, ap, subst, arith, zero-add}
use Rattle.bs_eval.specs.Values.{IsMemory}
use Rattle.bs_eval.proofs.Memories.{memory_extends}
use Rattle.bs_eval.specs.declared.memory.Memory.{Memory}
use Rattle.bs_tableau.specs.Table.{Table}
use Rattle.bs_tableau.specs.Words.{words}
use Rattle.bs_script.specs.Blocks.{ScriptLines}
use Rattle.bs_series.specs.Series.{Series}
use Rattle.bs_series.specs.Expressions.{Extends}
use Rattle.bs_names.specs.Known.{Known}
use Rattle.bs_command.specs.Commands.{Outcome}
use Rattle.bs_names.specs.Space.{Space, known_of}
use Rattle.bs_command.specs.Toil.{toil_of}
use Rattle.bs_work.specs.Works.{IsWork, IsHeldWork, StepsOn, whole_reply, work_left}
use Rattle.bs_names.specs.Space.{IsBookOf}
use Rattle.bs_command.specs.Changes.{Begins}
use Rattle.bs_work.specs.WorkNeeded.{AreNeeded, NeededOn}
use Rattle.bs_session.specs.Machine.{need_here, need_whole, lines_here, lines_left, State, commands_of, plain_of, line_at, outcome_at, said, IsSound, IsAsked, Evaluates, Takes, IsDone, toil_behind, toil_from, left, idle}
use Rattle.bs_session.specs.Turns.{IsQuiet, GoesOn, accepted}
use Rattle.bs_session.specs.declared.asked.Asked.{Asked}
use Rattle.bs_session.specs.declared.asked.Asked.TheVariants as asked
use Rattle.bs_command.specs.declared.change.Change.TheVariants.{Nothing}
use Rattle.bs_names.specs.declared.live.LiveTree.{LiveTree}
use Rattle.bs_work.specs.declared.step.Step.{Step}
use Rattle.bs_work.specs.declared.step.Step.TheVariants.{Intern, Release, Same, Look, Keep, Done}
use Rattle.bs_work.specs.declared.work.Work.{Work}
use Rattle.bs_session.proofs.Needed.{needed-whole}
use Rattle.bs_session.proofs.Turns.{toil-here}
use Rattle.bs_session.proofs.Settled.{Goes, goes-settled, left_here, unasked, asked-as, takes-after, settles-nothing}

pub Extends-refl : (es : List Series) → Extends es es
Extends-refl es = record { grows = omega arith; stays = λ i below. refl }

pub Extends-same : (es es' : List Series) → es' ≡ es → Extends es es'
Extends-same es es' e = rw e (Extends-refl es)

pub Extends-then : (a b c : List Series) → Extends a b → Extends b c → Extends a c
Extends-then a b c f g = record {
  grows = omega (arith, f.grows, g.grows);
  stays = λ i below. g.stays i (omega (arith, below, f.grows)) ∙ f.stays i below;
}

-- where the command at the place lists so many lines
pub record GoesFrom (script : ScriptLines) (old new : State) (lines : ℕ) (step : Option Step) : Type 0 where
  pub said : said script new ≡ said script old
  pub takes : MatchOption step (IsQuiet old new) (λ s. Takes script old new s × (¬ IsDone s))
  pub sound : IsSound script new
  pub number : new.number ≡ old.number
  pub ids_stay : Extends old.space.book new.space.book
  pub nearer : left script new < left script old
  pub listed : lines_left script old ≡ lines + lines_left script new

-- ---- before the command at the place
here-by : (script : ScriptLines) (s : State) (question : Asked) → s.place < length (commands_of script s) → toil_behind script s ≤ toil_from script s question
here-by script s asked.Nothing more = let e = toil-here script s more in omega (arith, e)
here-by script s (asked.Same l r) more = let e = toil-here script s more in omega (arith, e)
here-by script s asked.Value more = omega arith

pub left-here : (script : ScriptLines) (s : State) → s.place < length (commands_of script s) → left_here script s ≤ left script s
left-here script s more = let e = here-by script s s.asked more in omega (arith, e)

pub goes-from : (script : ScriptLines) (old new : State) (step : Option Step) → old.place < length (commands_of script old) → Goes script old new step → GoesFrom script old new (lines_here script old) step
goes-from script old new step more g =
    let here = left-here script old more in
    record {
      said = g.said;
      takes = g.takes;
      sound = g.sound;
      number = g.number;
      ids_stay = Extends-same old.space.book new.space.book g.book;
      nearer = omega (arith, g.nearer, here);
      listed = g.listed;
    }

-- ---- a state that says the same
pub record Alike (script : ScriptLines) (old mid : State) : Type 0 where
  pub said : said script mid ≡ said script old
  pub number : mid.number ≡ old.number
  pub live : mid.space.live ≡ old.space.live
  pub interned : mid.interned ≡ old.interned
  pub ids_stay : Extends old.space.book mid.space.book
  pub nearer : left script mid ≤ left script old
  pub listed : lines_left script mid ≡ lines_left script old

pub takes-alike : (script : ScriptLines) (old mid new : State) (step : Option Step) → Alike script old mid → MatchOption step (IsQuiet mid new) (λ s. Takes script mid new s × (¬ IsDone s)) → MatchOption step (IsQuiet old new) (λ s. Takes script old new s × (¬ IsDone s))
takes-alike script old mid new None a q = record { live = q.live ∙ a.live; interned = q.interned ∙ a.interned; asked = q.asked }
takes-alike script old mid new (Some step) a t = (takes-after script old mid new step a.number a.live a.interned t.0, t.1)

pub goes-alike : (script : ScriptLines) (old mid new : State) (lines : ℕ) (step : Option Step) → Alike script old mid → GoesFrom script mid new lines step → GoesFrom script old new lines step
goes-alike script old mid new lines step a g = record {
  said = g.said ∙ a.said;
  takes = takes-alike script old mid new step a g.takes;
  sound = g.sound;
  number = g.number ∙ a.number;
  ids_stay = Extends-then old.space.book mid.space.book new.space.book a.ids_stay g.ids_stay;
  nearer = omega (arith, g.nearer, a.nearer);
  listed = sym a.listed ∙ g.listed;
}

-- ---- the state with a book that has grown
abbrev pub grown : State → Space → Work → State
grown s space work = record s { space = space; work = work }

pub sound-grown : (script : ScriptLines) (old : State) (space : Space) (work : Work) → IsSound script old → old.asked ≡ asked.Nothing → IsBookOf (plain_of script old) old.space space → IsSound script (grown old space work)
sound-grown script old space work sound idle book = record {
  here = sound.here;
  few = sound.few;
  place = sound.place;
  interned = sound.interned;
  used = sound.used;
  numbered = rw book.live sound.numbered;
  apart = rw book.live sound.apart;
  suits = book.suits;
  memory = memory_extends (plain_of script old) old.space.book space.book old.memory sound.memory book.ids_stay;
  asked = rw idle tt;
  run = rw (book.live, book.series) sound.run;
}

pub known-grown : (ts : List Table) (old new : Space) → IsBookOf ts old new → known_of new ≡ known_of old
known-grown ts old new book = rw (book.live, book.series) refl

pub alike-grown : (script : ScriptLines) (old : State) (space : Space) (work : Work) → old.asked ≡ asked.Nothing → IsBookOf (plain_of script old) old.space space → Alike script old (grown old space work)
alike-grown script old space work idle book =
    let e : left script (grown old space work) ≡ left script old = rw (idle, book.live, book.series) refl in
    record {
      said = rw (book.live, book.series) refl;
      number = refl;
      live = book.live;
      interned = refl;
      ids_stay = book.ids_stay;
      nearer = omega (arith, e);
      listed = rw (book.live, book.series) refl;
    }

-- ---- the state with work that is begun
abbrev pub begun : State → Space → Work → State
begun s space work = record s { space = space; work = work; asked = asked.Value }

pub sound-begun : (script : ScriptLines) (old : State) (space : Space) (work : Work) (most : ℕ) → IsSound script old → old.place < length (commands_of script old) → IsBookOf (plain_of script old) old.space space
    → Begins (plain_of script old) space (outcome_at script old) most (need_here script old) work → lines_here script old ≡ 0 → IsSound script (begun old space work)
sound-begun script old space work most sound more book b none = record {
  here = sound.here;
  few = sound.few;
  place = sound.place;
  interned = sound.interned;
  used = sound.used;
  numbered = rw book.live sound.numbered;
  apart = rw book.live sound.apart;
  suits = book.suits;
  memory = memory_extends (plain_of script old) old.space.book space.book old.memory sound.memory book.ids_stay;
  asked = record {
    here = more;
    work = b.work;
    held = b.held old.memory;
    reply = rw (book.live, book.series) (rw (book.live, book.series) at b.is);
    needs = rw (book.live, book.series) b.needs;
    unlisted = rw (book.live, book.series) none;
  };
  run = rw (book.live, book.series) sound.run;
}

pub alike-begun : (script : ScriptLines) (old : State) (space : Space) (work : Work) → old.asked ≡ asked.Nothing → old.place < length (commands_of script old) → IsBookOf (plain_of script old) old.space space
    → work_left space.book work ≤ toil_of (known_of old.space) (words (line_at script old)) → Alike script old (begun old space work)
alike-begun script old space work idle more book few =
    let toil = toil-here script old more in
    let now : left script (begun old space work) ≡ 3 * (length (commands_of script old) - old.place) + length old.space.live + 0 + (work_left space.book work + toil_behind script old) = rw (book.live, book.series) refl in
    let before : left script old ≡ 3 * (length (commands_of script old) - old.place) + length old.space.live + 1 + toil_from script old asked.Nothing = rw idle refl in
    record {
      said = rw (book.live, book.series) refl;
      number = refl;
      live = book.live;
      interned = refl;
      ids_stay = book.ids_stay;
      nearer = omega (arith, now, before, toil, few);
      listed = rw (book.live, book.series) refl;
    }

-- ---- work that goes on
abbrev pub working : State → Work → Memory → State
working s work memory = record s { work = work; memory = memory }

works_of : (script : ScriptLines) (old : State) (work : Work) (memory : Memory) (step : Step) → old.asked ≡ asked.Value → StepsOn (plain_of script old) old.space.book work step → NeededOn old.space.book (need_whole script old) step → Takes script old (working old work memory) step × (¬ IsDone step)
works_of script old work memory (Intern tree code) value s n = absurd s
works_of script old work memory (Release tree) value s n = absurd s
works_of script old work memory (Same x y) value s n = absurd s
works_of script old work memory (Look id code) value s n = (record { asked = value; is = s; needed = n; live = refl; counted = refl }, λ done. done)
works_of script old work memory (Keep id code v) value s n = (record { asked = value; is = s; needed = n; live = refl; counted = refl }, λ done. done)
works_of script old work memory (Done reply) value s n = absurd s

sound_working : (script : ScriptLines) (old : State) (work : Work) (memory : Memory) → IsSound script old → old.asked ≡ asked.Value → AreNeeded old.space.book (need_here script old) work → IsWork (plain_of script old) old.space.book work
    → IsHeldWork old.space.book memory work → IsMemory (plain_of script old) old.space.book memory
    → whole_reply (plain_of script old) old.space.book work ≡ whole_reply (plain_of script old) old.space.book old.work → IsSound script (working old work memory)
sound_working script old work memory sound value needs is held right same =
    let e = asked-as script old asked.Value value sound in
    let evaluates : Evaluates script (working old work memory) = record {
      here = e.here;
      work = is;
      held = held;
      reply = e.reply ∙ ap (λ (r : List ℕ). let o : Outcome = Ok (known_of old.space, r) in o) (sym same);
      needs = needs;
      unlisted = e.unlisted;
    } in
    record {
      here = sound.here;
      few = sound.few;
      place = sound.place;
      interned = sound.interned;
      used = sound.used;
      numbered = sound.numbered;
      apart = sound.apart;
      suits = sound.suits;
      memory = right;
      asked = subst (λ q. IsAsked script (working old work memory) q) (sym value) evaluates;
      run = sound.run;
    }

pub goes-working : (script : ScriptLines) (old : State) (work : Work) (memory : Memory) (step : Step) → IsSound script old → old.asked ≡ asked.Value
    → GoesOn (plain_of script old) old.space.book old.work (Some step) work memory → GoesFrom script old (working old work memory) 0 (Some step)
goes-working script old work memory step sound value g =
    let now : left script (working old work memory) ≡ 3 * (length (commands_of script old) - old.place) + length old.space.live + 0 + (work_left old.space.book work + toil_behind script old) = rw value refl in
    let before : left script old ≡ 3 * (length (commands_of script old) - old.place) + length old.space.live + 0 + (work_left old.space.book old.work + toil_behind script old) = rw value refl in
    let e = asked-as script old asked.Value value sound in
    let k = g.need.needs (need_here script old) e.needs in
    record {
      said = refl;
      takes = works_of script old work memory step value g.is (needed-whole script old (known_of old.space, whole_reply (plain_of script old) old.space.book old.work) step old.space.book sound.run e.here e.reply k.1);
      sound = sound_working script old work memory sound value k.0 g.work g.held g.memory g.reply;
      number = refl;
      ids_stay = Extends-refl old.space.book;
      nearer = omega (arith, now, before, g.nearer);
      listed = sym (zero-add (lines_left script old));
    }

-- ---- work that is at its end
pub goes-worked : (script : ScriptLines) (old new : State) (work : Work) (memory : Memory) → IsSound script old → old.asked ≡ asked.Value → GoesOn (plain_of script old) old.space.book old.work None work memory
    → new ≡ accepted (length old.out) (record old { work = work; memory = memory; out = old.out ++ work.draft.items; asked = asked.Nothing }) → GoesFrom script old new 0 None
goes-worked script old new work memory sound value g0 e =
    let whole = g0.0 in
    let is = asked-as script old asked.Value value sound in
    let mid : State = working (unasked old) work memory in
    let reply : Known × List ℕ = (known_of old.space, work.draft.items) in
    let outcome : outcome_at script mid ≡ Ok reply = is.reply ∙ ap (λ (r : List ℕ). let o : Outcome = Ok (known_of old.space, r) in o) (sym whole) in
    let mid_sound : IsSound script mid = record {
      here = sound.here;
      few = sound.few;
      place = sound.place;
      interned = sound.interned;
      used = sound.used;
      numbered = sound.numbered;
      apart = sound.apart;
      suits = sound.suits;
      memory = g0.1;
      asked = tt;
      run = sound.run;
    } in
    let g = goes-settled script mid new (Ok reply) (old.out ++ work.draft.items) Nothing None mid_sound refl is.here outcome (refl, refl, tt)
    (settles-nothing (length old.out) (record old { work = work; memory = memory; out = old.out ++ work.draft.items; asked = asked.Nothing }) new e) in
    let here = left-here script old is.here in
    record {
      said = g.said;
      takes = record { live = g.takes.live; interned = g.takes.interned; asked = g.takes.asked };
      sound = g.sound;
      number = g.number;
      ids_stay = Extends-same old.space.book new.space.book g.book;
      nearer = omega (arith, g.nearer, here);
      listed = g.listed ∙ ap (λ (n : ℕ). n + lines_left script new) is.unlisted;
    }

-- ---- an answer to a comparison
pub goes-answered : (script : ScriptLines) (old new : State) → old.place < length (commands_of script old) → Goes script (unasked old) new None → lines_here script old ≡ 0 → GoesFrom script old new 0 None
goes-answered script old new more g none =
    let here = left-here script old more in
    record {
      said = g.said;
      takes = record { live = g.takes.live; interned = g.takes.interned; asked = g.takes.asked };
      sound = g.sound;
      number = g.number;
      ids_stay = Extends-same old.space.book new.space.book g.book;
      nearer = omega (arith, g.nearer, here);
      listed = g.listed ∙ ap (λ (n : ℕ). n + lines_left script new) none;
    }

-- ---- a tree that is given back at the end
pub left-released : (script : ScriptLines) (old : State) (live : List (List ℕ × LiveTree)) → old.asked ≡ asked.Nothing → old.place ≡ length (commands_of script old) → length live + 1 ≡ length old.space.live
    → left script (record old { space = record old.space { live = live } }) < left script old
left-released script old live idle last less =
    let none : drop old.place (commands_of script old) ≡ [] = rw last (drop_all (commands_of script old)) in
    rw (idle, none) (omega (arith, less))
  where
    drop_all : {X : Type 0} (xs : List X) → drop (length xs) xs ≡ []
    drop_all [] = refl
    drop_all (x ∷ xs) = drop_all xs

-- ---- what the work comes to, by whether there is a step
pub goes-ended : (script : ScriptLines) (old new : State) (work : Work) (memory : Memory) (step : Option Step) (none : Bool) → IsSound script old → old.asked ≡ asked.Value → GoesOn (plain_of script old) old.space.book old.work step work memory
    → is_some step ≡ not none → none ≡ true → new ≡ accepted (length old.out) (record old { work = work; memory = memory; out = old.out ++ work.draft.items; asked = asked.Nothing }) → GoesFrom script old new 0 step
goes-ended script old new work memory None none sound value g is h e = goes-worked script old new work memory sound value g e
goes-ended script old new work memory (Some step) none sound value g is h e = absurd (let f : true ≡ false = is ∙ ap not h in cc)

pub goes-asked : (script : ScriptLines) (old new : State) (work : Work) (memory : Memory) (step : Option Step) (none : Bool) → IsSound script old → old.asked ≡ asked.Value → GoesOn (plain_of script old) old.space.book old.work step work memory
    → is_some step ≡ not none → none ≡ false → new ≡ working old work memory → GoesFrom script old new 0 step
goes-asked script old new work memory None none sound value g is h e = absurd (let f : false ≡ true = is ∙ ap not h in cc)
goes-asked script old new work memory (Some step) none sound value g is h e = rw e (goes-working script old work memory step sound value g)

-- ---- a state that only says more of memory
pub takes-failed : (script : ScriptLines) (old new : State) (failed : Bool) (step : Step) → Takes script old new step → Takes script old (record new { failed = failed }) step
takes-failed script old new failed (Intern tree code) t =
    let i = t.0 in (
      record {
        name = i.name;
        next = i.next;
        counted = i.counted;
        free = i.free;
        live = i.live;
        line = i.line;
        read = i.read;
        reply = i.reply;
        series = i.series;
        named = i.named;
      },
      t.1,
    )
takes-failed script old new failed (Release tree) t =
    let r = t.0 in (
      record { name = r.name; given = r.given; was = r.was; is = r.is; gone = r.gone; counted = r.counted },
      t.1,
    )
takes-failed script old new failed (Same x y) t = record {
  first = t.first;
  second = t.second;
  asked = t.asked;
  left_is = t.left_is;
  right_is = t.right_is;
  left_live = t.left_live;
  right_live = t.right_live;
  live = t.live;
  counted = t.counted;
}
takes-failed script old new failed (Look id code) t = record { asked = t.asked; is = t.is; needed = t.needed; live = t.live; counted = t.counted }
takes-failed script old new failed (Keep id code v) t = record { asked = t.asked; is = t.is; needed = t.needed; live = t.live; counted = t.counted }
takes-failed script old new failed (Done reply) t = t
