-- What a parse of the command found for one of its options has passed that option's parser.
use Rattle.std.proofs.Common.{zero, suc, ◌≡◌, ◌∙◌, ◌<◌, ap, ℕ, Bool, true, false, not, List, [], ◌∷◌, length, Option, Some, None, refl, sym, subst, inl, inr, arith, codes}
use Rattle.std.specs.List.{All, slice_index_or}
use Rattle.std.specs.Str.{bytes_eq}
use Rattle.std.specs.Prelude.{option_map, slice_get}
use Rattle.std.specs.Borrow.{Bor}
use Rattle.std.proofs.lemmas.Bool.Decides.{nat_tests}
use Rattle.std.proofs.lemmas.List.{get_or-map, length-map}
use Rattle.std.proofs.lemmas.List.Elements.{All-get_or}
use Rattle.std.proofs.lemmas.Slice.Eq.{bytes_eq-Decides}
use Rattle.clap.specs.Facts.{Entry, EntryPasses, HasReading, PassesArg, ValuesPass, args_of, groups_of, parser_of, parser_of_value}
use Rattle.clap.specs.Built.{IsAuto, IsParsedFrom, NamesNoGroup, SameRules}
use Rattle.clap.specs.Matches.{found_of, matched_of, one_text}
use Rattle.clap.specs.Values.{Accepts, read_as, reading_of}
use Rattle.clap.specs.Walk.{Rule, rule_of, is_empty}
use Rattle.clap.specs.Simple.{App, app_of}
use Rattle.clap.specs.declared.builder.Arg.{Arg}
use Rattle.clap.specs.declared.builder.Command.{Command}
use Rattle.clap.specs.declared.builder.command.Command.TheViews.{out-Command}
use Rattle.clap.specs.declared.builder.ValueParser.{ValueParser}
use Rattle.clap.specs.declared.parser.matches.ArgMatches.{ArgMatches}
use Rattle.clap.specs.declared.parser.matches.Found.{Found}
use Rattle.clap.specs.declared.parser.matches.MatchedArg.{MatchedArg}
use Rattle.clap.proofs.CallerLemmas.{entry_by_id, same_rules_by_id}
use Rattle.clap.proofs.WalkLemmas.{both}
use Rattle.clap.specs.declared.builder.value_parser.Reading.{Reading}
use Rattle.bs_words.specs.Words.{app}

-- ---- the command, from what a parse reads of it

abbrev pub rules_of_app : List Rule
rules_of_app = app.top.rules

nth_rule : (old : Command) → app_of old ≡ app → (j : ℕ) (d : Arg) → j < length (args_of old)
    → rule_of (slice_index_or (args_of old) j d) ≡ slice_index_or rules_of_app j (rule_of d)
nth_rule old is j d lt =
    sym (get_or-map rule_of (args_of old) j d (rule_of d) lt) ∙ ap (λ (a : App). slice_index_or a.top.rules j (rule_of d)) is

pub three_options : (old : Command) → app_of old ≡ app → length (args_of old) ≡ 3
three_options old is = sym (length-map (args_of old) rule_of) ∙ ap (λ (a : App). length a.top.rules) is

distinct : (j k : ℕ) (d e : Rule) → j < 3 → k < 3 → bytes_eq (slice_index_or rules_of_app j d).id (slice_index_or rules_of_app k e).id ≡ true → j ≡ k
distinct zero zero d e l m h = refl
distinct zero (suc zero) d e l m h = cc
distinct zero (suc (suc zero)) d e l m h = cc
distinct (suc zero) zero d e l m h = cc
distinct (suc zero) (suc zero) d e l m h = refl
distinct (suc zero) (suc (suc zero)) d e l m h = cc
distinct (suc (suc zero)) zero d e l m h = cc
distinct (suc (suc zero)) (suc zero) d e l m h = cc
distinct (suc (suc zero)) (suc (suc zero)) d e l m h = refl
distinct (suc (suc (suc j))) k d e l m h = absurd (omega arith)
distinct zero (suc (suc (suc k))) d e l m h = absurd (omega arith)
distinct (suc zero) (suc (suc (suc k))) d e l m h = absurd (omega arith)
distinct (suc (suc zero)) (suc (suc (suc k))) d e l m h = absurd (omega arith)

simple_rule : (j : ℕ) (d : Rule) → j < 3 → (slice_index_or rules_of_app j d).is_simple ≡ true
simple_rule zero d l = refl
simple_rule (suc zero) d l = refl
simple_rule (suc (suc zero)) d l = refl
simple_rule (suc (suc (suc j))) d l = absurd (omega arith)

nothing_in : {X : Type 0} (xs : List X) → is_empty xs ≡ true → xs ≡ []
nothing_in [] h = refl
nothing_in (x ∷ xs) h = let bad : length (x ∷ xs) ≡ 0 = grind (arith, nat_tests) in absurd (omega arith)

is_not : (b : Bool) → not b ≡ true → b ≡ false
is_not true h = cc
is_not false h = refl

no_groups_named : (old : Command) → app_of old ≡ app → NamesNoGroup old
no_groups_named old is j d lt =
    let simple = ap (λ (r : Rule). r.is_simple) (nth_rule old is j d lt) ∙ simple_rule j (rule_of d) (omega (arith, three_options old is)) in
    nothing_in _ (both _ _ (both _ _ (both _ _ simple).1).1).0

plain_top : (old : Command) → app_of old ≡ app → (groups_of old ≡ []) × ((out-Command old).has_globals ≡ false)
plain_top old is =
    let plain = ap (λ (a : App). a.top.is_plain) is in (
      nothing_in _ (both _ _ plain).0,
      is_not _ (both _ _ (both _ _ (both _ _ plain).1).1).0,
    )

-- ---- one entry

head_passes : (P : Bor (List ℕ) → Type 0) (read : List ℕ → List ℕ) (vs : List (Bor (List ℕ))) (t : List ℕ) → All P vs
    → option_map (λ s. read s.now) (slice_get vs 0) ≡ Some t
    → (v : Bor (List ℕ)) × (read v.now ≡ t) × P v
head_passes P read [] t h is = cc
head_passes P read (v ∷ vs) t h is = (v, cc, All-get_or P (v ∷ vs) 0 v (omega arith) h)

only_reading : (old : Command) (m : ArgMatches) (p : IsParsedFrom old m) (k : ℕ) (d : Arg) → k < length (args_of old)
    → ((j : ℕ) (e : Arg) → j < length (args_of old)
    → bytes_eq (slice_index_or (args_of old) j e).id.now (slice_index_or (args_of old) k d).id.now ≡ true → j ≡ k)
    → (IsAuto (slice_index_or (args_of old) k d) → ⊥)
    → (q : ValueParser) → (slice_index_or (args_of old) k d).value_parser ≡ Some q
    → (r : Reading) → HasReading p.built (slice_index_or (args_of old) k d).id.now r → r ≡ reading_of q
only_reading old m p k d lt unique own q parser r any =
    let s = same_rules_by_id old m p k d lt unique own any.0 any.1 any.2 any.3 any.4.0 in
    let is_q : parser_of any.1 ≡ q = ap parser_of_value (s.parser q parser) in
    sym any.4.1 ∙ ap reading_of is_q

accepts_of : (a y : Arg) (q : ValueParser) (t : List ℕ) → SameRules a y → a.value_parser ≡ Some q
    → Accepts y.ignore_case (parser_of y) t → Accepts a.ignore_case q t
accepts_of a y q t s parser read =
    let is_q : parser_of y ≡ q = ap parser_of_value (s.parser q parser) in
    let as_q : Accepts y.ignore_case q t = subst (λ (w : ValueParser). Accepts y.ignore_case w t) is_q read in
    subst (λ (b : Bool). Accepts b q t) s.ignore_case as_q

passes_read : (old : Command) (m : ArgMatches) (p : IsParsedFrom old m) (k : ℕ) (d : Arg) → k < length (args_of old)
    → ((j : ℕ) (e : Arg) → j < length (args_of old)
    → bytes_eq (slice_index_or (args_of old) j e).id.now (slice_index_or (args_of old) k d).id.now ≡ true → j ≡ k)
    → (IsAuto (slice_index_or (args_of old) k d) → ⊥)
    → (q : ValueParser) → (slice_index_or (args_of old) k d).value_parser ≡ Some q
    → (v : List ℕ) → PassesArg p.built (slice_index_or (args_of old) k d).id.now v
    → Accepts (slice_index_or (args_of old) k d).ignore_case q v
passes_read old m p k d lt unique own q parser v pass =
    accepts_of _ pass.1 q v (same_rules_by_id old m p k d lt unique own pass.0 pass.1 pass.2 pass.3 pass.4.0) parser pass.4.1

-- what one entry gives: its text was read of a value that passed
entry_reads : (c : Command) (id : List ℕ) (Q : List ℕ → Type 0) (how : Reading) (x : MatchedArg) (e : Entry)
    → groups_of c ≡ [] → (id ≡ [] → ⊥) → ((r : Reading) → HasReading c id r → r ≡ how)
    → ((v : List ℕ) → PassesArg c id v → Q v)
    → e.1 ≡ x → e.0.now ≡ id → EntryPasses c e
    → (t : List ℕ) → option_map (λ s. read_as x.reading s.now) (slice_get x.vals.items 0) ≡ Some t
    → (u : List ℕ) × (read_as how u ≡ t) × Q u
entry_reads c id Q how x e no_groups named reads read same_x key pass t text =
    let no_group : e.1.is_group ≡ true → ⊥ = λ g. elim (pass.3 g) [
      | inl empty ↦ named (sym key ∙ empty)
      | inr lots ↦
          let bad : 0 < 0 = rw no_groups at lots in
          absurd (omega arith)
    ] in
    let all : All (λ v. PassesArg c id v.now) x.vals.items = elim pass.0 [
      | inl g ↦ absurd (no_group g)
      | inr vals ↦ subst (λ (w : List ℕ). All (λ v. PassesArg c w v.now) x.vals.items) key (rw same_x at vals)
    ] in
    let is : e.1.reading ≡ how = elim pass.4 [
      | inl g ↦ absurd (no_group g)
      | inr h ↦ reads e.1.reading (subst (λ (w : List ℕ). HasReading c w e.1.reading) key h)
    ] in
    finish (head_passes (λ v. PassesArg c id v.now) (read_as x.reading) x.vals.items t all text) (ap (λ (y : MatchedArg). y.reading) (sym same_x) ∙ is)
  where
    finish : ((v : Bor (List ℕ)) × (read_as x.reading v.now ≡ t) × PassesArg c id v.now) → x.reading ≡ how
        → (u : List ℕ) × (read_as how u ≡ t) × Q u
    finish hd is = (hd.0.now, subst (λ (r : Reading). read_as r hd.0.now ≡ t) is hd.1, read hd.0.now hd.2)

found_reads : (c : Command) (f : Found) (id : List ℕ) (Q : List ℕ → Type 0) (how : Reading) → ValuesPass c f
    → groups_of c ≡ [] → (id ≡ [] → ⊥) → ((r : Reading) → HasReading c id r → r ≡ how)
    → ((v : List ℕ) → PassesArg c id v → Q v)
    → (t : List ℕ) → one_text f id ≡ Some t
    → (u : List ℕ) × (read_as how u ≡ t) × Q u
found_reads c f id Q how values no_groups named reads read t text = go (matched_of f id) refl text
  where
    step : (x : MatchedArg) → option_map (λ s. read_as x.reading s.now) (slice_get x.vals.items 0) ≡ Some t
        → ((e : Entry) × (e.1 ≡ x) × (bytes_eq e.0.now id ≡ true) × EntryPasses c e)
        → (u : List ℕ) × (read_as how u ≡ t) × Q u
    step x first got = entry_reads c id Q how x got.0 no_groups named reads read got.1 ((bytes_eq-Decides got.0.0.now id).0 got.2) got.3 t first

    go : (o : Option MatchedArg) → matched_of f id ≡ o → one_text f id ≡ Some t → (u : List ℕ) × (read_as how u ≡ t) × Q u
    go None e h =
        let bad : None ≡ Some t = rw e at h in
        cc
    go (Some x) e h = step x (rw e at h) (entry_by_id (EntryPasses c) f.entries.items id x values e)

-- the text of an argument of the caller's that one place alone declares was read of a value that passed
given_reads : (old : Command) (m : ArgMatches) (p : IsParsedFrom old m) → NamesNoGroup old → groups_of old ≡ []
    → (out-Command old).has_globals ≡ false
    → (k : ℕ) (d : Arg) → k < length (args_of old)
    → ((j : ℕ) (e : Arg) → j < length (args_of old)
    → bytes_eq (slice_index_or (args_of old) j e).id.now (slice_index_or (args_of old) k d).id.now ≡ true → j ≡ k)
    → ((slice_index_or (args_of old) k d).id.now ≡ [] → ⊥) → (IsAuto (slice_index_or (args_of old) k d) → ⊥)
    → (q : ValueParser) → (slice_index_or (args_of old) k d).value_parser ≡ Some q
    → (t : List ℕ) → one_text (found_of m) (slice_index_or (args_of old) k d).id.now ≡ Some t
    → (u : List ℕ) × (read_as (reading_of q) u ≡ t) × Accepts (slice_index_or (args_of old) k d).ignore_case q u
given_reads old m p no_names groups globals k d lt unique named own q parser t text =
    let parsed = p.parsed (p.from.globals ∙ globals) in
    found_reads p.built (found_of m) (slice_index_or (args_of old) k d).id.now
    (λ (u : List ℕ). Accepts (slice_index_or (args_of old) k d).ignore_case q u) (reading_of q)
    parsed.values ((p.from.same_groups no_names).1 ∙ groups) named
    (only_reading old m p k d lt unique own q parser)
    (passes_read old m p k d lt unique own q parser) t text

-- the same of one of the command's options
pub option_reads : (old : Command) (m : ArgMatches) (p : IsParsedFrom old m) → app_of old ≡ app
    → (k : ℕ) (d : Arg) → k < 3 → (id : List ℕ) (q : ValueParser)
    → (slice_index_or rules_of_app k (rule_of d)).id ≡ id → (slice_index_or rules_of_app k (rule_of d)).parser ≡ Some q
    → (slice_index_or rules_of_app k (rule_of d)).ignore_case ≡ false
    → (id ≡ [] → ⊥) → (id ≡ codes "help" → ⊥) → (id ≡ codes "version" → ⊥)
    → (t : List ℕ) → one_text (found_of m) id ≡ Some t
    → (u : List ℕ) × (read_as (reading_of q) u ≡ t) × Accepts false q u
option_reads old m p is k d lt id q id_is parser_is case_is named not_help not_version t text =
    let long = three_options old is in
    let in_args : k < length (args_of old) = omega arith in
    let rule = nth_rule old is k d in_args in
    let its_id : (slice_index_or (args_of old) k d).id.now ≡ id = ap (λ (r : Rule). r.id) rule ∙ id_is in
    let its_parser : (slice_index_or (args_of old) k d).value_parser ≡ Some q = ap (λ (r : Rule). r.parser) rule ∙ parser_is in
    let its_case : (slice_index_or (args_of old) k d).ignore_case ≡ false = ap (λ (r : Rule). r.ignore_case) rule ∙ case_is in
    let unique : (j : ℕ) (e : Arg) → j < length (args_of old)
    → bytes_eq (slice_index_or (args_of old) j e).id.now (slice_index_or (args_of old) k d).id.now ≡ true → j ≡ k =
    λ j e low same.
    let other : (slice_index_or (args_of old) j e).id.now ≡ (slice_index_or rules_of_app j (rule_of e)).id = ap (λ (r : Rule). r.id) (nth_rule old is j e low) in
    let this : (slice_index_or (args_of old) k d).id.now ≡ (slice_index_or rules_of_app k (rule_of d)).id = ap (λ (r : Rule). r.id) rule in
    distinct j k (rule_of e) (rule_of d) (omega arith) lt
    (subst (λ (w : List ℕ). bytes_eq w (slice_index_or rules_of_app k (rule_of d)).id ≡ true) other (subst (λ (w : List ℕ). bytes_eq (slice_index_or (args_of old) j e).id.now w ≡ true) this same)) in
    let got = given_reads old m p (no_groups_named old is) (plain_top old is).0 (plain_top old is).1 k d in_args unique
    (λ empty. named (sym its_id ∙ empty))
    (λ auto. elim auto [ inl h ↦ not_help (sym its_id ∙ h) | inr h ↦ not_version (sym its_id ∙ h) ])
    q its_parser t (subst (λ (w : List ℕ). one_text (found_of m) w ≡ Some t) (sym its_id) text) in (
      got.0,
      got.1,
      subst (λ (b : Bool). Accepts b q got.0) its_case got.2,
    )
