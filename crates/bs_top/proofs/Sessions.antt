-- A script has no more sessions than the reader takes.
use Rattle.std.specs.Prelude.{codes}
use Rattle.std.specs.Str.{bytes_eq}
use Rattle.std.proofs.Common.{◌≡◌, ◌≢◌, ℕ, ◌<◌, ◌≤◌, ◌==◌, Bool, true, false, List, [], ◌∷◌, length, Option, Some, None, Result, Ok, Err, if◌then◌else◌, refl, subst, arith}
use Rattle.std.proofs.lemmas.Bool.Decides.{nat_tests}
use Rattle.std.proofs.lemmas.Grind.{common_steps}
use Rattle.bs_frac.specs.Fraction.{Fraction}
use Rattle.bs_tableau.specs.Table.{Table, row_count}
use Rattle.bs_tableau.specs.Rows.{row_of}
use Rattle.bs_tableau.specs.Words.{words}
use Rattle.bs_tableau.specs.declared.TheConstants.{MAX_STAGES, MAX_COLOURS}
use Rattle.bs_tableau.specs.declared.builder.TableauFault.{TableauFault}
use Rattle.bs_script.specs.Blocks.{ScriptLines, empty_script, has_name, with_session}
use Rattle.bs_script.specs.Words.{has_bad_byte, is_alone, number_to}
use Rattle.bs_script.specs.Lines.{start_of, kept, last}
use Rattle.bs_script.specs.Grammar.{Place, Outcome, format_line, table_begun, table_named, table_line, session_line, block_line, first_line, row_line, placed, moved, at_end, at_line, from, script}
use Rattle.bs_script.specs.Grammar.Place.{start, outside, in_table, in_session}
use Rattle.bs_script.specs.declared.TheConstants.{MAX_TABLES, MAX_SESSIONS, MAX_COMMANDS}
use Rattle.bs_script.specs.declared.reason.Reason.{Reason}
use Rattle.bs_script.specs.declared.reason.Reason.TheVariants.{TooMany}

-- there is room for the session that is open
abbrev HasRoom : ScriptLines → Place → Type 0
HasRoom s start = length s.sessions ≤ MAX_SESSIONS
HasRoom s outside = length s.sessions ≤ MAX_SESSIONS
HasRoom s (in_table name t) = length s.sessions ≤ MAX_SESSIONS
HasRoom s (in_session commands) = length s.sessions < MAX_SESSIONS

abbrev RoomIn : Outcome → Type 0
RoomIn (Ok m) = HasRoom m.0 m.1
RoomIn (Err reason) = Unit {0}

either : (b : Bool) (x y : Outcome) → RoomIn x → RoomIn y → RoomIn (if b then x else y)
either true x y p q = p
either false x y p q = q

format_room : (s : ScriptLines) (ws : List (List ℕ)) → length s.sessions ≤ MAX_SESSIONS → RoomIn (format_line s ws)
format_room s [] h = tt
format_room s (form ∷ []) h = either (bytes_eq form (codes "1")) _ _ h tt
format_room s (form ∷ w ∷ ws) h = tt

begun_room : (s : ScriptLines) (name : List ℕ) (stages colours : Option ℕ) → length s.sessions ≤ MAX_SESSIONS → RoomIn (table_begun s name stages colours)
begun_room s name (Some stages) (Some colours) h = h
begun_room s name (Some stages) None h = tt
begun_room s name None colours h = tt

named_room : (s : ScriptLines) (name : List ℕ) (stages colours : Option ℕ) → length s.sessions ≤ MAX_SESSIONS → RoomIn (table_named s name stages colours)
named_room s name stages colours h =
    either (length s.tables == MAX_TABLES) _ _ tt (either (has_name s name) _ _ tt (begun_room s name stages colours h))

table_room : (s : ScriptLines) (ws : List (List ℕ)) → length s.sessions ≤ MAX_SESSIONS → RoomIn (table_line s ws)
table_room s [] h = tt
table_room s (name ∷ []) h = tt
table_room s (name ∷ stages ∷ []) h = named_room s name (number_to MAX_STAGES stages) (Some 1) h
table_room s (name ∷ stages ∷ colours ∷ []) h = named_room s name (number_to MAX_STAGES stages) (number_to MAX_COLOURS colours) h
table_room s (name ∷ stages ∷ colours ∷ w ∷ ws) h = tt

by_test : (n m : ℕ) (P : Bool → Type 0) → (n ≡ m → P true) → (n ≢ m → P false) → P (n == m)
by_test n m P hit miss = by_value (n == m) refl
  where
    by_value : (b : Bool) → (n == m) ≡ b → P b
    by_value true e = hit (grind (arith, nat_tests))
    by_value false e = miss (grind (arith, nat_tests))

session_room : (s : ScriptLines) (ws : List (List ℕ)) → length s.sessions ≤ MAX_SESSIONS → RoomIn (session_line s ws)
session_room s [] h =
    by_test (length s.sessions) MAX_SESSIONS (λ b. RoomIn (if b then Err TooMany else Ok (s, in_session []))) (λ e. tt) (λ n. omega arith)
session_room s (w ∷ ws) h = tt

block_room : (s : ScriptLines) (ws : List (List ℕ)) → length s.sessions ≤ MAX_SESSIONS → RoomIn (block_line s ws)
block_room s [] h = tt
block_room s (first ∷ more) h =
    either (bytes_eq first (codes "tableau")) _ _ (table_room s more h) (either (bytes_eq first (codes "session")) _ _ (session_room s more h) tt)

first_room : (s : ScriptLines) (ws : List (List ℕ)) → length s.sessions ≤ MAX_SESSIONS → RoomIn (first_line s ws)
first_room s [] h = tt
first_room s (first ∷ more) h = either (bytes_eq first (codes "format")) _ _ (format_room s more h) (block_room s (first ∷ more) h)

row_room : (s : ScriptLines) (name : List ℕ) (t : Table) (r : Result (List Fraction) TableauFault) → length s.sessions ≤ MAX_SESSIONS → RoomIn (row_line s name t r)
row_room s name t (Ok row) h = h
row_room s name t (Err fault) h = tt

one_more : (s : ScriptLines) (commands : List (List ℕ)) → length s.sessions < MAX_SESSIONS → length (with_session s commands).sessions ≤ MAX_SESSIONS
one_more s commands h = grind (arith, common_steps)

placed_room : (s : ScriptLines) (p : Place) (line : List ℕ) (ws : List (List ℕ)) → HasRoom s p → RoomIn (placed s p line ws)
unfolding placed
placed_room s start line ws h = first_room s ws h
placed_room s outside line ws h = block_room s ws h
placed_room s (in_table name t) line ws h =
    either (length t.rows == row_count t) _ _ (either (is_alone (codes "end") ws) _ _ h tt) (row_room s name t (row_of t line) h)
placed_room s (in_session commands) line ws h =
    either (is_alone (codes "end") ws) _ _ (one_more s commands h) (either (length commands == MAX_COMMANDS) _ _ tt h)

moved_room : (s : ScriptLines) (p : Place) (line : List ℕ) → HasRoom s p → RoomIn (moved s p line)
unfolding moved
moved_room s p line h = either (has_bad_byte line) _ _ tt (placed_room s p line (words line) h)

-- ---- over all lines
abbrev FewIn : Result ScriptLines (ℕ × Reason) → Type 0
FewIn (Ok s) = length s.sessions ≤ MAX_SESSIONS
FewIn (Err refusal) = Unit {0}

end_few : (s : ScriptLines) (p : Place) (n : ℕ) → HasRoom s p → FewIn (at_end s p n)
end_few s start n h = h
end_few s outside n h = h
end_few s (in_table name t) n h = tt
end_few s (in_session commands) n h = tt

line_few : (n : ℕ) (o : Outcome) (f : ScriptLines × Place → Result ScriptLines (ℕ × Reason)) → RoomIn o → ((m : ScriptLines × Place) → HasRoom m.0 m.1 → FewIn (f m)) → FewIn (at_line n o f)
line_few n (Ok m) f h each = each m h
line_few n (Err reason) f h each = tt

from_few : (s : ScriptLines) (p : Place) (n : ℕ) (ls : List (ℕ × List ℕ)) → HasRoom s p → FewIn (from s p n ls)
from_few s p n [] h = end_few s p n h
from_few s p n (line ∷ more) h = line_few line.0 (moved s p line.1) (λ m. from m.0 m.1 n more) (moved_room s p line.1 h) (λ m k. from_few m.0 m.1 n more k)

pub few_sessions : (input : List ℕ) (s : ScriptLines) → script input ≡ Ok s → length s.sessions ≤ MAX_SESSIONS
few_sessions input s e = subst FewIn e (from_few empty_script start (last (start_of input)) (kept (start_of input)) (omega arith))
