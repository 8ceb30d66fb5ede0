-- One turn of a session: what the names stand for after it, what it leaves to say, and that it stays sound.
use Rattle.std.proofs.Common.{◌≡◌, ◌≢◌, ℕ, suc, ◌+◌, ◌-◌, ◌<◌, ◌≤◌, Bool, true, false, cond, List, [], ◌∷◌, ◌++◌, length, take, drop, Option, Some, None, IsSome, option_map, Ok, Err, nat_le, slice_index_or, refl, sym, ◌∙◌, ap, subst, inl, inr, arith, add-one, length-append}
use Rattle.std.specs.Str.{bytes_eq}
use Rattle.std.proofs.Math.Path.{fun_ext}
use Rattle.std.proofs.Math.Seq.{drop-cons, take-append_seam}
use Rattle.std.proofs.lemmas.Bool.{cases_Bool, cond-true, cond-false}
use Rattle.std.proofs.lemmas.List.{append_assoc}
use Rattle.std.proofs.lemmas.Slice.Eq.{bytes_eq-Decides}
use Rattle.bs_reply.specs.Lines.{error_line}
use Rattle.bs_script.specs.Blocks.{ScriptLines}
use Rattle.bs_names.specs.Names.{at, Sets}
use Rattle.bs_command.specs.Errors.{error_number}
use Rattle.bs_series.specs.Series.{Series}
use Rattle.bs_series.specs.Expressions.{series_at}
use Rattle.bs_names.specs.Known.{Known, with_tree, without_tree, with_series}
use Rattle.bs_names.specs.Space.{Space, known_of}
use Rattle.bs_session.specs.Toil.{toil}
use Rattle.bs_command.specs.Toil.{toil_of}
use Rattle.bs_tableau.specs.Words.{words}
use Rattle.bs_command.specs.Commands.{Outcome}
use Rattle.bs_session.specs.Replies.{Turn, settled, replies}
use Rattle.bs_command.specs.Changes.{known_after}
use Rattle.bs_session.specs.Machine.{State, commands_of, tables_of, line_at, outcome_at, said, toil_behind, toil_from}
use Rattle.bs_session.specs.declared.asked.Asked.{Asked}
use Rattle.bs_session.specs.declared.asked.Asked.TheVariants as asked
use Rattle.bs_session.specs.Turns.{Applies, SettlesBy, Settles, fits, accepted}
use Rattle.bs_session.specs.declared.TheConstants.{MAX_REPLIES}
use Rattle.bs_command.specs.declared.error.Error.{Error}
use Rattle.bs_command.specs.declared.error.Error.TheVariants.{Replies}
use Rattle.bs_names.specs.declared.live.LiveTree.{LiveTree}
use Rattle.bs_command.specs.declared.change.Change.{Change}
use Rattle.bs_command.specs.declared.change.Change.TheVariants.{Nothing, Name, Drop, Define}
use Rattle.bs_work.specs.declared.step.Step.{Step}
use Rattle.bs_work.specs.declared.step.Step.TheVariants.{Intern, Release, Same, Look, Keep, Done}

-- ---- names
code_of : Option LiveTree → Option (List (ℕ × ℕ))
code_of tree = option_map (λ t. t.code) tree

at_other : (old new : List (List ℕ × LiveTree)) (name other : List ℕ) (value : Option LiveTree) → Sets old new name value
    → option_map (λ t. t.code) (at other new) ≡ cond (bytes_eq other name) (option_map (λ t. t.code) value) (option_map (λ t. t.code) (at other old))
at_other old new name other value sets =
    elim (cases_Bool (bytes_eq other name)) [
      | inl same ↦
          let e : other ≡ name = (bytes_eq-Decides other name).0 same in
          let here : at other new ≡ value = subst (λ n. at n new ≡ value) (sym e) sets.here in
          ap (λ o. option_map (λ t. t.code) o) here ∙ sym (cond-true _ _ _ same)
      | inr apart ↦
          let differs : other ≢ name = λ e. let t = (bytes_eq-Decides other name).1 e in cc in
          ap (λ o. option_map (λ t. t.code) o) (sets.others other differs) ∙ sym (cond-false _ _ _ apart)
    ]

trees_by : (s : List ℕ → Option Series) (f g : List ℕ → Option (List (ℕ × ℕ))) → ((name : List ℕ) → f name ≡ g name) → let k : Known = record { trees = f; series = s } in let l : Known = record { trees = g; series = s } in k ≡ l
trees_by s f g same = ap (λ (h : List ℕ → Option (List (ℕ × ℕ))). let k : Known = record { trees = h; series = s } in k) (fun_ext same)

series_by : (t : List ℕ → Option (List (ℕ × ℕ))) (f g : List ℕ → Option Series) → ((name : List ℕ) → f name ≡ g name) → let k : Known = record { trees = t; series = f } in let l : Known = record { trees = t; series = g } in k ≡ l
series_by t f g same = ap (λ (h : List ℕ → Option Series). let k : Known = record { trees = t; series = h } in k) (fun_ext same)

at_other_series : (old new : List (List ℕ × Series)) (name other : List ℕ) (s : Series) → Sets old new name (Some s) → at other new ≡ cond (bytes_eq other name) (Some s) (at other old)
at_other_series old new name other s sets =
    elim (cases_Bool (bytes_eq other name)) [
      | inl same ↦
          let e : other ≡ name = (bytes_eq-Decides other name).0 same in
          let here : at other new ≡ Some s = subst (λ n. at n new ≡ Some s) (sym e) sets.here in
          here ∙ sym (cond-true _ _ _ same)
      | inr apart ↦
          let differs : other ≢ name = λ e. let t = (bytes_eq-Decides other name).1 e in cc in
          sets.others other differs ∙ sym (cond-false _ _ _ apart)
    ]

-- the same with other live trees, and with other series
abbrev pub with_live : Space → List (List ℕ × LiveTree) → Space
with_live space live = record space { live = live }

abbrev pub with_named : Space → List (List ℕ × Series) → Space
with_named space series = record space { series = series }

pub known-named : (space : Space) (new : List (List ℕ × LiveTree)) (name : List ℕ) (tree : LiveTree) → Sets space.live new name (Some tree) → known_of (with_live space new) ≡ with_tree (known_of space) name tree.code
known-named space new name tree sets = trees_by _ _ _ (λ other. at_other space.live new name other (Some tree) sets)

pub known-dropped : (space : Space) (new : List (List ℕ × LiveTree)) (name : List ℕ) → Sets space.live new name None → known_of (with_live space new) ≡ without_tree (known_of space) name
known-dropped space new name sets = trees_by _ _ _ (λ other. at_other space.live new name other None sets)

pub known-defined : (space : Space) (new : List (List ℕ × Series)) (name : List ℕ) (s : Series) → Sets space.series new name (Some s) → known_of (with_named space new) ≡ with_series (known_of space) name s
known-defined space new name s sets = series_by _ _ _ (λ other. at_other_series space.series new name other s sets)

-- ---- what is left to say
pub record Turned (outcome : Outcome) (old new : State) : Type 0 where
  pub number : new.number ≡ old.number
  pub place : new.place ≡ old.place + 1
  pub out : new.out ≡ old.out ++ (settled (known_of old.space) old.used outcome).reply
  pub used : new.used ≡ (settled (known_of old.space) old.used outcome).used
  pub known : known_of new.space ≡ (settled (known_of old.space) old.used outcome).known

pub said-turned : (script : ScriptLines) (old new : State) → old.place < length (commands_of script old) → Turned (outcome_at script old) old new → said script new ≡ said script old
said-turned script old new more t =
    let d : drop old.place (commands_of script old) ≡ line_at script old ∷ drop (suc old.place) (commands_of script old) = drop-cons (commands_of script old) old.place [] more in
    let now : Turn = settled (known_of old.space) old.used (outcome_at script old) in
    let rest = replies (tables_of script old) now.known now.used (drop (suc old.place) (commands_of script old)) in
    let left : said script new ≡ old.out ++ now.reply ++ rest = rw (t.out, t.used, t.known, t.place, t.number, add-one old.place) refl in
    let right : said script old ≡ old.out ++ (now.reply ++ rest) = rw d refl in
    left ∙ append_assoc old.out now.reply rest ∙ sym right

-- ---- what is left to work out
-- the toil of the command at the place, and of those behind it
pub toil-here : (script : ScriptLines) (s : State) → s.place < length (commands_of script s)
    → toil (tables_of script s) (known_of s.space) s.used (drop s.place (commands_of script s)) ≡ toil_of (known_of s.space) (words (line_at script s)) + toil_behind script s
toil-here script s more =
    let d : drop s.place (commands_of script s) ≡ line_at script s ∷ drop (suc s.place) (commands_of script s) = drop-cons (commands_of script s) s.place [] more in
    rw d refl

pub toil-turned : (script : ScriptLines) (old new : State) → Turned (outcome_at script old) old new → new.asked ≡ asked.Nothing → toil_from script new new.asked ≡ toil_behind script old
toil-turned script old new t idle = rw (idle, t.used, t.known, t.place, t.number, add-one old.place) refl

-- ---- the change that is made
-- what a change leaves: the state that was taken, with other trees
pub known-applied : (change : Change) (taken new : State) (step : Option Step) → Applies change taken new step → known_of new.space ≡ known_after taken.space change
known-applied Nothing taken new None a = ap (λ (s : State). known_of s.space) a
known-applied Nothing taken new (Some (Intern tree c)) a = absurd a
known-applied Nothing taken new (Some (Release tree)) a = absurd a
known-applied Nothing taken new (Some (Same x y)) a = absurd a
known-applied Nothing taken new (Some (Look id c)) a = absurd a
known-applied Nothing taken new (Some (Keep id c v)) a = absurd a
known-applied Nothing taken new (Some (Done reply)) a = absurd a
known-applied (Name name code) taken new None a = absurd a
known-applied (Name name code) taken new (Some (Intern tree c)) a =
    ap (λ (s : State). known_of s.space) a.0 ∙ known-named taken.space new.space.live name.now (record { number = tree; code = code }) a.3
known-applied (Name name code) taken new (Some (Release tree)) a = absurd a
known-applied (Name name code) taken new (Some (Same x y)) a = absurd a
known-applied (Name name code) taken new (Some (Look id c)) a = absurd a
known-applied (Name name code) taken new (Some (Keep id c v)) a = absurd a
known-applied (Name name code) taken new (Some (Done reply)) a = absurd a
known-applied (Drop name) taken new None a = absurd a
known-applied (Drop name) taken new (Some (Intern tree c)) a = absurd a
known-applied (Drop name) taken new (Some (Release tree)) a =
    ap (λ (s : State). known_of s.space) a.0 ∙ known-dropped taken.space new.space.live name.now a.2
known-applied (Drop name) taken new (Some (Same x y)) a = absurd a
known-applied (Drop name) taken new (Some (Look id c)) a = absurd a
known-applied (Drop name) taken new (Some (Keep id c v)) a = absurd a
known-applied (Drop name) taken new (Some (Done reply)) a = absurd a
known-applied (Define name series) taken new None a =
    ap (λ (s : State). known_of s.space) a.0 ∙ known-defined taken.space new.space.series name.now (series_at taken.space.book series) a.1
known-applied (Define name series) taken new (Some (Intern tree c)) a = absurd a
known-applied (Define name series) taken new (Some (Release tree)) a = absurd a
known-applied (Define name series) taken new (Some (Same x y)) a = absurd a
known-applied (Define name series) taken new (Some (Look id c)) a = absurd a
known-applied (Define name series) taken new (Some (Keep id c v)) a = absurd a
known-applied (Define name series) taken new (Some (Done reply)) a = absurd a

-- ---- the reply that is taken, or refused
-- the state with a reply behind its text
abbrev pub with_reply : State → List ℕ → State
with_reply old text = record old { out = old.out ++ text }

abbrev pub is_short : State → List ℕ → Bool
is_short old text = nat_le (old.used + length text) MAX_REPLIES

-- the state after the reply, or after an error in its place
abbrev pub taken_by : Bool → State → List ℕ → State
taken_by true old text = record old { out = old.out ++ text; used = old.used + length text; place = old.place + 1 }
taken_by false old text = record old { out = old.out ++ error_line (error_number Replies); place = old.place + 1 }

gained : (old : State) (text : List ℕ) → length (old.out ++ text) - length old.out ≡ length text
gained old text = omega (arith, length-append old.out text)

fits-short : (old : State) (text : List ℕ) → fits (length old.out) (with_reply old text) ≡ is_short old text
fits-short old text = rw (gained old text) refl

accepted-taken : (old : State) (text : List ℕ) → accepted (length old.out) (with_reply old text) ≡ taken_by (is_short old text) old text
accepted-taken old text =
    rw (gained old text, take-append_seam old.out text) (by (is_short old text))
  where
    by : (b : Bool) → cond b (record old { out = old.out ++ text; used = old.used + length text; place = old.place + 1 }) (record old { out = old.out ++ error_line (error_number Replies); place = old.place + 1 }) ≡ taken_by b old text
    by true = refl
    by false = refl

pub settles-taken : (old : State) (text : List ℕ) (change : Change) (new : State) (step : Option Step) → Settles (length old.out) change (with_reply old text) new step → SettlesBy (is_short old text) (taken_by (is_short old text) old text) change new step
settles-taken old text change new step s =
    let first : SettlesBy (is_short old text) (accepted (length old.out) (with_reply old text)) change new step = subst (λ b. SettlesBy b (accepted (length old.out) (with_reply old text)) change new step) (fits-short old text) s in
    subst (λ t. SettlesBy (is_short old text) t change new step) (accepted-taken old text) first

-- the parts of the state that no change of names touches
pub record SameRest (taken new : State) : Type 0 where
  pub number : new.number ≡ taken.number
  pub place : new.place ≡ taken.place
  pub used : new.used ≡ taken.used
  pub out : new.out ≡ taken.out
  pub asked : new.asked ≡ taken.asked
  pub book : new.space.book ≡ taken.space.book
  pub memory : new.memory ≡ taken.memory

same_rest : (taken new : State) (space : Space) (interned : ℕ) → new ≡ record taken { space = space; interned = interned } → space.book ≡ taken.space.book → SameRest taken new
same_rest taken new space interned e book = record {
  number = ap (λ (s : State). s.number) e;
  place = ap (λ (s : State). s.place) e;
  used = ap (λ (s : State). s.used) e;
  out = ap (λ (s : State). s.out) e;
  asked = ap (λ (s : State). s.asked) e;
  book = ap (λ (s : State). s.space.book) e ∙ book;
  memory = ap (λ (s : State). s.memory) e;
}

pub rest-applied : (change : Change) (taken new : State) (step : Option Step) → Applies change taken new step → SameRest taken new
rest-applied Nothing taken new None a = same_rest taken new taken.space taken.interned a refl
rest-applied Nothing taken new (Some (Intern tree c)) a = absurd a
rest-applied Nothing taken new (Some (Release tree)) a = absurd a
rest-applied Nothing taken new (Some (Same x y)) a = absurd a
rest-applied Nothing taken new (Some (Look id c)) a = absurd a
rest-applied Nothing taken new (Some (Keep id c v)) a = absurd a
rest-applied Nothing taken new (Some (Done reply)) a = absurd a
rest-applied (Name name code) taken new None a = absurd a
rest-applied (Name name code) taken new (Some (Intern tree c)) a = same_rest taken new (with_live taken.space new.space.live) (taken.interned + 1) a.0 refl
rest-applied (Name name code) taken new (Some (Release tree)) a = absurd a
rest-applied (Name name code) taken new (Some (Same x y)) a = absurd a
rest-applied (Name name code) taken new (Some (Look id c)) a = absurd a
rest-applied (Name name code) taken new (Some (Keep id c v)) a = absurd a
rest-applied (Name name code) taken new (Some (Done reply)) a = absurd a
rest-applied (Drop name) taken new None a = absurd a
rest-applied (Drop name) taken new (Some (Intern tree c)) a = absurd a
rest-applied (Drop name) taken new (Some (Release tree)) a = same_rest taken new (with_live taken.space new.space.live) taken.interned a.0 refl
rest-applied (Drop name) taken new (Some (Same x y)) a = absurd a
rest-applied (Drop name) taken new (Some (Look id c)) a = absurd a
rest-applied (Drop name) taken new (Some (Keep id c v)) a = absurd a
rest-applied (Drop name) taken new (Some (Done reply)) a = absurd a
rest-applied (Define name series) taken new None a = same_rest taken new (with_named taken.space new.space.series) taken.interned a.0 refl
rest-applied (Define name series) taken new (Some (Intern tree c)) a = absurd a
rest-applied (Define name series) taken new (Some (Release tree)) a = absurd a
rest-applied (Define name series) taken new (Some (Same x y)) a = absurd a
rest-applied (Define name series) taken new (Some (Look id c)) a = absurd a
rest-applied (Define name series) taken new (Some (Keep id c v)) a = absurd a
rest-applied (Define name series) taken new (Some (Done reply)) a = absurd a

turned-by : (b : Bool) (old : State) (answer : Known × List ℕ) (change : Change) (new : State) (step : Option Step) → is_short old answer.1 ≡ b → answer.0 ≡ known_after old.space change
    → SettlesBy b (taken_by b old answer.1) change new step → Turned (Ok answer) old new
turned-by true old answer change new step short is s =
    let rest = rest-applied change (taken_by true old answer.1) new step s in
    let known = known-applied change (taken_by true old answer.1) new step s in
    record {
      number = rest.number;
      place = rest.place;
      out = rw short rest.out;
      used = rw short rest.used;
      known = rw short (known ∙ sym is);
    }
turned-by false old answer change new step long is s = record {
  number = ap (λ (t : State). t.number) s.0;
  place = ap (λ (t : State). t.place) s.0;
  out = rw long (ap (λ (t : State). t.out) s.0);
  used = rw long (ap (λ (t : State). t.used) s.0);
  known = rw long (ap (λ (t : State). known_of t.space) s.0);
}

-- a reply that stands behind the text, and then is taken with its change or refused
pub turned-settled : (old : State) (answer : Known × List ℕ) (change : Change) (new : State) (step : Option Step) → answer.0 ≡ known_after old.space change
    → Settles (length old.out) change (with_reply old answer.1) new step → Turned (Ok answer) old new
turned-settled old answer change new step is s = turned-by (is_short old answer.1) old answer change new step refl is (settles-taken old answer.1 change new step s)

-- a command that is refused
pub turned-refused : (old new : State) (error : Error) → new ≡ record old { out = old.out ++ error_line (error_number error); place = old.place + 1 } → Turned (Err error) old new
turned-refused old new error e = record {
  number = ap (λ (t : State). t.number) e;
  place = ap (λ (t : State). t.place) e;
  out = ap (λ (t : State). t.out) e;
  used = ap (λ (t : State). t.used) e;
  known = ap (λ (t : State). known_of t.space) e;
}
