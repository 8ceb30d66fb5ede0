-- The number that a getter reads is the number of the text.
use Rattle.std.proofs.Common.{◌≡◌, ◌<◌, ◌≤◌, ℕ, List, Option, Some, None, Result, Ok, Err, ap, refl, sym, ◌∙◌, arith, IfSome, subst, [], ◌∷◌, true, false, inl, inr, codes, length}
use Rattle.std.specs.Prelude.{option_map}
use Rattle.std.specs.Str.Parse.{ParsesUnsigned}
use Rattle.clap.specs.Matches.{ReadsOne}
use Rattle.clap.specs.Values.{IsUnsignedIn}
use Rattle.std.specs.List.{slice_index_or}
use Rattle.std.specs.Str.{bytes_eq}
use Rattle.std.proofs.lemmas.Slice.Eq.{bytes_eq-Decides}
use Rattle.clap.specs.Facts.{args_of}
use Rattle.clap.specs.Built.{IsParsedFrom}
use Rattle.clap.specs.Kinds.{HasKind, IsAmong, Kinds}
use Rattle.clap.specs.Matches.{found_of, one_text}
use Rattle.clap.specs.Values.{kind_of}
use Rattle.clap.specs.Words.{App, HasMatchesOf, Rule, Text, app_of, fault_of, is_simple, is_simple_and_free, matches_of, one_of, rows_of, rule_of, takes}
use Rattle.clap.specs.declared.builder.Arg.{Arg}
use Rattle.clap.specs.declared.builder.Command.{Command}
use Rattle.clap.specs.declared.builder.ValueParser.TheVariants.{Unsigned}
use Rattle.clap.specs.declared.error.Error.{Error}
use Rattle.clap.specs.declared.error.ErrorKind.{ErrorKind}
use Rattle.clap.specs.declared.error.ErrorKind.TheVariants.{OutOfMemory}
use Rattle.clap.specs.declared.parser.matches.ArgMatches.{ArgMatches}
use Rattle.clap.proofs.OnLiterals.{clap_on_literals}
use Rattle.clap.proofs.WalkLemmas.{one_text-rows}
use Rattle.bs_words.specs.Words.{accepts, app, faults, number, number_of}
use Rattle.bs_words.proofs.Found.{option_reads, rules_of_app, three_options}

-- a text that passed reads as its number
pub reads_number : (E : Type 0) (G : List ℕ → Result ℕ E → Type 0) (low high : ℕ) (t : List ℕ) (r : Option ℕ)
    → ((u : List ℕ) (x : Result ℕ E) → G u x → ParsesUnsigned 64 10 u x) → ReadsOne G t r → IsUnsignedIn low high t
    → r ≡ Some (number t)
reads_number E G low high t (Some v) only read passed = ap (λ n. Some n) (only t (Ok v) read).1
reads_number E G low high t None only read passed = absurd (only t (Err read.0) read.1 (passed.0, passed.1))

-- what is read of an option is the number of its text, within the bounds
pub reads_option : (E : Type 0) (G : List ℕ → Result ℕ E → Type 0) (low high : ℕ) (o : Option (List ℕ)) (r : Option ℕ)
    → ((u : List ℕ) (x : Result ℕ E) → G u x → ParsesUnsigned 64 10 u x)
    → (o ≡ None → r ≡ None) → ((t : List ℕ) → o ≡ Some t → ReadsOne G t r)
    → ((t : List ℕ) → o ≡ Some t → IsUnsignedIn low high t)
    → (r ≡ option_map number o) × IfSome r (λ n. (low ≤ n) × (n ≤ high))
reads_option E G low high None r only none some passed = let e = none refl in (e, rw e tt)
reads_option E G low high (Some t) r only none some passed =
    let h = passed t refl in
    let e = reads_number E G low high t r only (some t refl) h in
    (e, rw e (h.2, h.3))

-- ---- the command's options

simple : is_simple app ≡ true
unfolding clap_on_literals
simple = refl

pub free : is_simple_and_free app ≡ true
unfolding clap_on_literals
free = refl

differs : (a b : Text) → bytes_eq a b ≡ false → a ≡ b → ⊥
differs a b apart same = let equal = (bytes_eq-Decides a b).1 same in let bad : false ≡ true = sym apart ∙ equal in cc

first_arg : (xs : List Arg) → length xs ≡ 3 → Arg
first_arg [] e = absurd (omega arith)
first_arg (a ∷ rest) e = a

-- the option at place k of the command, as a getter reads it
pub reads_of : (old : Command) (m : ArgMatches) (w : List Text) → app_of old ≡ app → IsParsedFrom old m → HasMatchesOf (app_of old) w m
    → (k : ℕ) → k < 3 → (id : Text) (low high : ℕ)
    → ((d : Rule) → (slice_index_or rules_of_app k d).id ≡ id) → ((d : Rule) → (slice_index_or rules_of_app k d).parser ≡ Some (Unsigned low high))
    → ((d : Rule) → (slice_index_or rules_of_app k d).ignore_case ≡ false)
    → bytes_eq id [] ≡ false → bytes_eq id (codes "help") ≡ false → bytes_eq id (codes "version") ≡ false
    → (E : Type 0) (G : List ℕ → Result ℕ E → Type 0) (r : Option ℕ)
    → ((u : List ℕ) (x : Result ℕ E) → G u x → ParsesUnsigned 64 10 u x)
    → (one_text (found_of m) id ≡ None → r ≡ None) → ((t : List ℕ) → one_text (found_of m) id ≡ Some t → ReadsOne G t r)
    → (r ≡ number_of id w) × IfSome r (λ n. (low ≤ n) × (n ≤ high))
unfolding number_of
reads_of old m w is p matches k lt id low high id_is parser_is case_is named not_help not_version E G r only none some =
    let rows : rows_of (found_of m) ≡ matches_of app w = (matches (ap is_simple is ∙ simple)).0 ∙ ap (λ (a : App). matches_of a w) is in
    let text : one_text (found_of m) id ≡ one_of id (matches_of app w) = one_text-rows (found_of m) id ∙ ap (one_of id) rows in
    let got = reads_option E G low high (one_text (found_of m) id) r only none some (λ t e.
    let d = first_arg (args_of old) (three_options old is) in
    let u = option_reads old m p is k d lt id (Unsigned low high) (id_is (rule_of d)) (parser_is (rule_of d)) (case_is (rule_of d))
    (differs id [] named) (differs id (codes "help") not_help) (differs id (codes "version") not_version) t e in
    subst (λ (s : List ℕ). IsUnsignedIn low high s) u.1 u.2) in
    (got.0 ∙ ap (option_map number) text, got.1)

-- ---- what a parse says of its kinds

pub no_fault : (a : App) (w : List Text) → a ≡ app → (is_simple_and_free a ≡ true → fault_of a w ≡ []) → faults w ≡ []
unfolding faults
no_fault a w is kinds = ap (λ (b : App). fault_of b w) (sym is) ∙ kinds (ap is_simple_and_free is ∙ free)

pub some_fault : (a : App) (w : List Text) (e : Error) → a ≡ app → (is_simple_and_free a ≡ true → HasKind (fault_of a w) e)
    → (kind_of e ≡ OutOfMemory → ⊥) → faults w ≡ [] → ⊥
unfolding faults
some_fault a w e is kinds other none = elim (kinds (ap is_simple_and_free is ∙ free)) [
  | inl memory ↦ other memory
  | inr among ↦ among_none (kind_of e) (fault_of a w) (ap (λ (b : App). fault_of b w) is ∙ none) among
]
  where
    among_none : (k : ErrorKind) (ks : Kinds) → ks ≡ [] → IsAmong k ks → ⊥
    among_none k [] none among = among
    among_none k (x ∷ xs) none among = cc

pub not_taken : (a : App) (w : List Text) (e : Error) → a ≡ app → (takes a w ≡ true → kind_of e ≡ OutOfMemory)
    → (kind_of e ≡ OutOfMemory → ⊥) → accepts w ≡ true → ⊥
unfolding accepts
not_taken a w e is passes other taken = other (passes (ap (λ (b : App). takes b w) is ∙ taken))
