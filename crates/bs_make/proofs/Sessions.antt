-- A made input is read, line by line.
use Rattle.std.proofs.Common.{◌≡◌, ◌≢◌, ℕ, zero, suc, ◌+◌, ◌≤◌, ◌==◌, eqb, if◌then◌else◌, true, false, List, [], ◌∷◌, ◌++◌, length, codes, decimal, Ok, refl, sym, ap, ◌∙◌, append_assoc, append-nil, length-append, arith}
use Rattle.std.specs.List.{AllByRecursion, join_by}
use Rattle.std.proofs.lemmas.Bool.Decides.{nat_tests}
use Rattle.bs_frac.specs.Gcd.{gcd}
use Rattle.bs_frac.specs.Text.{number_within, fraction_of}
use Rattle.bs_script.specs.Blocks.{SessionLines, ScriptLines, empty_script, with_session}
use Rattle.bs_script.specs.Words.{has_bad_byte}
use Rattle.bs_script.specs.Lines.{lines, kept_from}
use Rattle.bs_script.specs.Grammar.{Place, placed, moved, at_line, from}
use Rattle.bs_script.specs.Grammar.Place.{start, outside, in_session}
use Rattle.bs_script.proofs.Moves.{session_goes_on, session_ends}
use Rattle.bs_make.specs.Draws.{next, drawn}
use Rattle.bs_make.specs.Made.{joined, tree_name, tree_levels, tree_line, tree_lines, after_tree, after_trees, method_name, question_lines, series_lines, derived_lines, coeff_lines, last_lines, further_commands, commands, after_session, session_block, session_lines, table_lines, made_lines}
use Rattle.bs_make.specs.Script.{euler, rk4, midpoint, made_sessions, made_script}
use Rattle.bs_make.specs.Laws.{MadeInputsAreScripts, HasMadeSessions, HasMadeCommands}
use Rattle.bs_make.proofs.Clean.{IsClean, IsCommand, both_hold, lines-joined, numbered, all_kept, command_from, good_behind, good_list, good_pair}

-- ---- each line of a session is a command
tree_is : (j x : ℕ) → IsCommand (tree_line j x)
unfolding tree_line
tree_is j x =
    command_from 116 (codes "ree " ++ tree_name j ++ codes " " ++ join_by decimal (codes ",") (tree_levels x)) refl refl refl
    (good_pair (codes "tree " ++ tree_name j ++ codes " ") (join_by decimal (codes ",") (tree_levels x))
    (good_pair (codes "tree " ++ tree_name j) (codes " ") (good_behind (codes "tree t") j refl) refl)
    (good_list (tree_levels x)))

trees_are : (n j x : ℕ) → AllByRecursion IsCommand (tree_lines n j x)
trees_are zero j x = tt
trees_are (suc n) j x = (tree_is j x, trees_are n (j + 1) (after_tree x))

questions_are : (j : ℕ) → AllByRecursion IsCommand (question_lines j)
unfolding question_lines
questions_are j = (
  ((refl, refl), refl),
  (
    ((refl, refl), refl),
    (command_from 105 (codes "nfo " ++ tree_name j) refl refl refl (good_behind (codes "info t") j refl), tt),
  ),
)

good_method : (n : ℕ) → has_bad_byte (method_name n) ≡ false
unfolding method_name
good_method n = elim (n == 0) as (λ b. has_bad_byte (if b then codes "euler" else (if n == 1 then codes "rk4" else codes "mid")) ≡ false) [
  | true ↦ refl
  | false ↦ elim (n == 1) as (λ b. has_bad_byte (if b then codes "rk4" else codes "mid") ≡ false) [ true ↦ refl | false ↦ refl ]
]

series_are : (n : ℕ) → AllByRecursion IsCommand (series_lines n)
unfolding series_lines
series_are n = (
  ((refl, refl), refl),
  (command_from 115 (codes "eries m method " ++ method_name n) refl refl refl (good_pair (codes "series m method ") (method_name n) refl (good_method n)), tt),
)

derived_are : AllByRecursion IsCommand derived_lines
unfolding derived_lines
derived_are = (((refl, refl), refl), (((refl, refl), refl), (((refl, refl), refl), tt)))

coeffs_are : (n j : ℕ) → AllByRecursion IsCommand (coeff_lines n j)
coeffs_are zero j = tt
coeffs_are (suc n) j = (
  command_from 99 (codes "oeff d " ++ tree_name j) refl refl refl (good_behind (codes "coeff d t") j refl),
  (command_from 99 (codes "oeff v " ++ tree_name j) refl refl refl (good_behind (codes "coeff v t") j refl), coeffs_are n (j + 1)),
)

last_are : AllByRecursion IsCommand last_lines
unfolding last_lines
last_are = (((refl, refl), refl), (((refl, refl), refl), (((refl, refl), refl), tt)))

commands_are : (x : ℕ) → AllByRecursion IsCommand (commands x)
unfolding commands
commands_are x =
    let y = after_trees 8 x in
    let q = question_lines (drawn 8 y) in
    let s = series_lines (drawn 3 (next y)) in
    let c = coeff_lines 8 0 in
    both_hold IsCommand (tree_lines 8 0 x) (further_commands y) (trees_are 8 0 x)
    (both_hold IsCommand (q ++ s ++ derived_lines ++ c) last_lines
    (both_hold IsCommand (q ++ s ++ derived_lines) c
    (both_hold IsCommand (q ++ s) derived_lines
    (both_hold IsCommand q s (questions_are (drawn 8 y)) (series_are (drawn 3 (next y))))
    derived_are)
    (coeffs_are 8 0))
    last_are)

length-commands : (x : ℕ) → length (commands x) ≡ 35
unfolding commands question_lines series_lines derived_lines last_lines
length-commands x = refl

-- ---- each line of a made input is kept
clean_commands : (ls : List (List ℕ)) → AllByRecursion IsCommand ls → AllByRecursion IsClean ls
clean_commands [] h = tt
clean_commands (l ∷ ls) h = (h.0.0, clean_commands ls h.1)

clean_block : (x : ℕ) → AllByRecursion IsClean (session_block x)
unfolding session_block
clean_block x = both_hold IsClean (codes "session" ∷ commands x) (codes "end" ∷ []) ((refl, refl), clean_commands (commands x) (commands_are x)) ((refl, refl), tt)

clean_sessions : (n x : ℕ) → AllByRecursion IsClean (session_lines n x)
unfolding session_lines
clean_sessions zero x = tt
clean_sessions (suc n) x = both_hold IsClean (session_block x) (session_lines n (after_session x)) (clean_block x) (clean_sessions n (after_session x))

abbrev clean_line : (false ≡ false) × (false ≡ false)
clean_line = (refl, refl)

clean_tables : AllByRecursion IsClean table_lines
unfolding table_lines
clean_tables = (
  clean_line,
  (
    clean_line,
    (
      clean_line,
      (
        clean_line,
        (
          clean_line,
          (
            clean_line,
            (
              clean_line,
              (
                clean_line,
                (clean_line, (clean_line, (clean_line, (clean_line, (clean_line, (clean_line, (clean_line, tt))))))),
              ),
            ),
          ),
        ),
      ),
    ),
  ),
)

-- ---- what lines lead to
-- from one place these lines lead to another, whatever lines follow
Leads : ScriptLines → Place → List (List ℕ) → ScriptLines → Place → Type 0
Leads s p ls t q = (all n : ℕ) (more : List (List ℕ)) → (k : ℕ) × (from s p all (numbered n (ls ++ more)) ≡ from t q all (numbered k more))

leads_on : (s : ScriptLines) (p : Place) (ls : List (List ℕ)) (t : ScriptLines) (q : Place) (ms : List (List ℕ)) (u : ScriptLines) (r : Place)
    → Leads s p ls t q → Leads t q ms u r → Leads s p (ls ++ ms) u r
unfolding Leads
leads_on s p ls t q ms u r f g all n more =
    let a = f all n (ms ++ more) in
    let b = g all a.0 more in
    (b.0, ap (λ x. from s p all (numbered n x)) (append_assoc ls ms more) ∙ a.1 ∙ b.1)

one_line : (s : ScriptLines) (p : Place) (l : List ℕ) (t : ScriptLines) (q : Place) → moved s p l ≡ Ok (t, q) → Leads s p (l ∷ []) t q
unfolding Leads
one_line s p l t q e all n more = (n + 1, ap (λ x. at_line n x (λ m. from m.0 m.1 all (numbered (n + 1) more))) e)

commands_lead : (s : ScriptLines) (c ls : List (List ℕ)) → AllByRecursion IsCommand ls → length c + length ls ≤ 4096
    → Leads s (in_session c) ls s (in_session (c ++ ls))
unfolding Leads
commands_lead s c [] h le all n more = (n, ap (λ x. from s (in_session x) all (numbered n more)) (sym (append-nil c)))
commands_lead s c (l ∷ ls) h le all n more =
    let d = c ++ l ∷ [] in
    let room : length c ≢ 4096 = omega arith in
    let fits : length d + length ls ≤ 4096 = omega (arith, le, length-append c (l ∷ [])) in
    let first : Leads s (in_session c) (l ∷ []) s (in_session d) = one_line s (in_session c) l s (in_session d) (session_goes_on s c l h.0.0.0 h.0.1 room) in
    let both : Leads s (in_session c) (l ∷ ls) s (in_session (d ++ ls)) = leads_on s (in_session c) (l ∷ []) s (in_session d) ls s (in_session (d ++ ls)) first (commands_lead s d ls h.1 fits) in
    let made = both all n more in
    (made.0, made.1 ∙ ap (λ x. from s (in_session x) all (numbered made.0 more)) (append_assoc c (l ∷ []) ls))

no_eqb : (n m : ℕ) → n ≢ m → eqb n m ≡ false
no_eqb n m h = grind (arith, nat_tests)

session_begins : (s : ScriptLines) → length s.sessions ≢ 256 → moved s outside (codes "session") ≡ Ok (s, in_session [])
unfolding moved placed
session_begins s room = rw (no_eqb (length s.sessions) 256 room) refl

block_leads : (s : ScriptLines) (x : ℕ) → length s.sessions ≢ 256 → Leads s outside (session_block x) (with_session s (commands x)) outside
unfolding session_block
block_leads s x room =
    let c = commands x in
    let fits : length {A = List ℕ} [] + length c ≤ 4096 = omega (arith, length-commands x) in
    leads_on s outside (codes "session" ∷ c) s (in_session c) (codes "end" ∷ []) (with_session s c) outside
    (leads_on s outside (codes "session" ∷ []) s (in_session []) c s (in_session c)
    (one_line s outside (codes "session") s (in_session []) (session_begins s room))
    (commands_lead s [] c (commands_are x) fits))
    (one_line s (in_session c) (codes "end") (with_session s c) outside (session_ends s c (codes "end") refl refl))

-- the three tableaux and these sessions
abbrev so_far : List SessionLines → ScriptLines
so_far done = record {
  table_names = codes "euler" ∷ codes "rk4" ∷ codes "mid" ∷ [];
  tables = euler ∷ rk4 ∷ midpoint ∷ [];
  sessions = done;
}

sessions_lead : (n x : ℕ) (done : List SessionLines) → length done + n ≤ 256
    → Leads (so_far done) outside (session_lines n x) (so_far (done ++ made_sessions n x)) outside
unfolding Leads session_lines made_sessions
sessions_lead zero x done le all k more = (k, ap (λ y. from (so_far y) outside all (numbered k more)) (sym (append-nil done)))
sessions_lead (suc n) x done le all k more =
    let one : List SessionLines = record { above = 3; commands = commands x } ∷ [] in
    let room : length done ≢ 256 = omega arith in
    let fits : length (done ++ one) + n ≤ 256 = omega (arith, le, length-append done one) in
    let both : Leads (so_far done) outside (session_lines (suc n) x) (so_far (done ++ one ++ made_sessions n (after_session x))) outside =
    leads_on (so_far done) outside (session_block x) (so_far (done ++ one)) outside (session_lines n (after_session x)) (so_far (done ++ one ++ made_sessions n (after_session x))) outside
    (block_leads (so_far done) x room) (sessions_lead n (after_session x) (done ++ one) fits) in
    let made = both all k more in
    (made.0, made.1 ∙ ap (λ y. from (so_far y) outside all (numbered made.0 more)) (append_assoc done one (made_sessions n (after_session x))))

tables_lead : Leads empty_script start table_lines (so_far []) outside
unfolding Leads moved placed number_within fraction_of gcd table_lines
tables_lead all n more = (_, refl)

whole_leads : (seed : ℕ) → Leads empty_script start (made_lines seed) (made_script seed) outside
unfolding made_lines made_script
whole_leads seed = leads_on empty_script start table_lines (so_far []) outside (session_lines 64 seed) (so_far (made_sessions 64 seed)) outside tables_lead (sessions_lead 64 seed [] (omega arith))

-- ---- the laws
clean_lines : (seed : ℕ) → AllByRecursion IsClean (made_lines seed)
unfolding made_lines
clean_lines seed = both_hold IsClean table_lines (session_lines 64 seed) clean_tables (clean_sessions 64 seed)

pub made_are_scripts : MadeInputsAreScripts
unfolding Leads
made_are_scripts seed =
    let ls = made_lines seed in
    let all = 0 + length (lines (joined ls)) in
    let read = whole_leads seed all 1 [] in
    ap (λ x. from empty_script start all (kept_from 1 x)) (lines-joined ls (clean_lines seed))
    ∙ ap (from empty_script start all) (all_kept 1 ls (clean_lines seed))
    ∙ ap (λ x. from empty_script start all (numbered 1 x)) (sym (append-nil ls))
    ∙ read.1

length-made : (n x : ℕ) → length (made_sessions n x) ≡ n
unfolding made_sessions
length-made zero x = refl
length-made (suc n) x = ap suc (length-made n (after_session x))

pub sessions_are : HasMadeSessions
unfolding made_script
sessions_are seed = length-made 64 seed

all_made : (n x : ℕ) → AllByRecursion (λ session. length session.commands ≡ 35) (made_sessions n x)
unfolding made_sessions
all_made zero x = tt
all_made (suc n) x = (length-commands x, all_made n (after_session x))

pub commands_of_each : HasMadeCommands
unfolding made_script
commands_of_each seed = all_made 64 seed
