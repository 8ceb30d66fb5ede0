-- The grammar of scripts: what an input says, or which line is refused, and why.
--
--     format 1                        may be the first line that is not skipped
--     tableau NAME STAGES [COLOURS]   COLOURS is 1 where it is absent
--     a F1 .. Fs                      s lines, the rows of the matrix of colour 0
--     b F1 .. Fs                      its weights; then the same for each further colour
--     end
--     session
--     COMMAND                         any number of lines
--     end                             the first line whose only word is `end`
--
--   Place            == where a line stands: at the start, before any line that is not skipped; outside all blocks; in a
--                       tableau with this name and the rows so far; in a session with the commands so far
--   Outcome          == what has been read, and where the next line stands; or the reason for which a line is refused
--   placed s p l ws  == the outcome of a line l with the words ws at this place, where s has been read
--   moved s p l      == the same, where a byte that is not allowed comes before all else
--   from s p n ls    == what numbered lines say from a place on; the input has n lines
--   script bytes     == THE SCRIPT of an input, or the number of the refused line, from 1, and the reason
--
-- Where more than one reason applies to a line, the first in this order is given: Byte, Word, Format, TooMany, Name,
-- Missing, Count, Fraction. Where the input ends in a block, the reason is End and the line is the last.
--
-- Source: this project.
-- The code is one function for each block, which reads on to the block's end; it keeps no place, and no list of lines.
use Rattle.std.specs.Prelude.{ℕ, List, [], ◌∷◌, ◌++◌, ◌==◌, length, Option, Some, None, Result, Ok, Err, if◌then◌else◌, codes}
use Rattle.std.specs.Str.{bytes_eq}
use Rattle.bs_tableau.specs.Table.{Table, row_count, with_row}
use Rattle.bs_tableau.specs.Words.{words}
use Rattle.bs_tableau.specs.Rows.{row_of}
use Rattle.bs_tableau.specs.declared.TheConstants.{MAX_STAGES, MAX_COLOURS}
use Rattle.bs_tableau.specs.declared.builder.TableauFault.{TableauFault}
use Rattle.bs_tableau.specs.declared.builder.TableauFault.TheVariants as fault
use Rattle.bs_frac.specs.Fraction.{Fraction}
use Rattle.bs_script.specs.Blocks.{ScriptLines, empty_script, has_name, with_table, with_session}
use Rattle.bs_script.specs.Words.{has_bad_byte, is_alone, number_to}
use Rattle.bs_script.specs.Lines.{Ahead, start_of, kept, last}
use Rattle.bs_script.specs.declared.TheConstants.{MAX_TABLES, MAX_SESSIONS, MAX_COMMANDS}
use Rattle.bs_script.specs.declared.reason.Reason.{Reason}
use Rattle.bs_script.specs.declared.reason.Reason.TheVariants.{Byte, Word, Format, TooMany, Name, Count, Fraction as NoFraction, Missing, End}

pub data Place : Type 0 where
  start : Place
  outside : Place
  in_table : List ℕ → Table → Place
  in_session : List (List ℕ) → Place

abbrev pub Outcome : Type 0
Outcome = Result (ScriptLines × Place) Reason

-- the words after `format`
abbrev pub format_line : ScriptLines → List (List ℕ) → Outcome
format_line s [] = Err Word
format_line s (form ∷ []) = if bytes_eq form (codes "1") then Ok (s, outside) else Err Format
format_line s (form ∷ w ∷ ws) = Err Word

-- a tableau with this name, of so many stages and colours, where they are numbers in their range
abbrev pub table_begun : ScriptLines → List ℕ → Option ℕ → Option ℕ → Outcome
table_begun s name (Some stages) (Some colours) =
    Ok (s, in_table name (record { stages = stages; colours = colours; rows = [] }))
table_begun s name (Some stages) None = Err Count
table_begun s name None colours = Err Count

abbrev pub table_named : ScriptLines → List ℕ → Option ℕ → Option ℕ → Outcome
table_named s name stages colours =
    if length s.tables == MAX_TABLES then Err TooMany
    else (if has_name s name then Err Name else table_begun s name stages colours)

-- the words after `tableau`
abbrev pub table_line : ScriptLines → List (List ℕ) → Outcome
table_line s [] = Err Word
table_line s (name ∷ []) = Err Word
table_line s (name ∷ stages ∷ []) = table_named s name (number_to MAX_STAGES stages) (Some 1)
table_line s (name ∷ stages ∷ colours ∷ []) =
    table_named s name (number_to MAX_STAGES stages) (number_to MAX_COLOURS colours)
table_line s (name ∷ stages ∷ colours ∷ w ∷ ws) = Err Word

-- the words after `session`
abbrev pub session_line : ScriptLines → List (List ℕ) → Outcome
session_line s [] = if length s.sessions == MAX_SESSIONS then Err TooMany else Ok (s, in_session [])
session_line s (w ∷ ws) = Err Word

-- the words of a line that begins a block
abbrev pub block_line : ScriptLines → List (List ℕ) → Outcome
block_line s [] = Err Word
block_line s (first ∷ more) =
    if bytes_eq first (codes "tableau") then table_line s more
    else (if bytes_eq first (codes "session") then session_line s more else Err Word)

-- the words of the first line that is not skipped
abbrev pub first_line : ScriptLines → List (List ℕ) → Outcome
first_line s [] = Err Word
first_line s (first ∷ more) =
    if bytes_eq first (codes "format") then format_line s more else block_line s (first ∷ more)

abbrev pub reason_of : TableauFault → Reason
reason_of fault.Missing = Missing
reason_of fault.BadCount = Count
reason_of fault.BadFraction = NoFraction

-- a tableau's next row, or why the line is none
abbrev pub row_line : ScriptLines → List ℕ → Table → Result (List Fraction) TableauFault → Outcome
row_line s name t (Ok row) = Ok (s, in_table name (with_row t row))
row_line s name t (Err f) = Err (reason_of f)

unfoldable pub placed : ScriptLines → Place → List ℕ → List (List ℕ) → Outcome
placed s start line ws = first_line s ws
placed s outside line ws = block_line s ws
placed s (in_table name t) line ws =
    if length t.rows == row_count t
    then (if is_alone (codes "end") ws then Ok (with_table s name t, outside) else Err Missing)
    else row_line s name t (row_of t line)
placed s (in_session commands) line ws =
    if is_alone (codes "end") ws then Ok (with_session s commands, outside)
    else (if length commands == MAX_COMMANDS then Err TooMany else Ok (s, in_session (commands ++ line ∷ [])))

unfoldable pub moved : ScriptLines → Place → List ℕ → Outcome
moved s p line = if has_bad_byte line then Err Byte else placed s p line (words line)

-- a reason is given with the number of its line
abbrev pub at_line : {A B : Type 0} → ℕ → Result A Reason → (A → Result B (ℕ × Reason)) → Result B (ℕ × Reason)
at_line n (Ok x) f = f x
at_line n (Err reason) f = Err (n, reason)

-- the input ends at this place
abbrev pub at_end : ScriptLines → Place → ℕ → Result ScriptLines (ℕ × Reason)
at_end s start n = Ok s
at_end s outside n = Ok s
at_end s (in_table name t) n = Err (n, End)
at_end s (in_session commands) n = Err (n, End)

abbrev pub from : ScriptLines → Place → ℕ → List (ℕ × List ℕ) → Result ScriptLines (ℕ × Reason)
from s p n [] = at_end s p n
from s p n (line ∷ more) = at_line line.0 (moved s p line.1) (λ m. from m.0 m.1 n more)

abbrev pub rest_of : ScriptLines → Place → Ahead → Result ScriptLines (ℕ × Reason)
rest_of s p a = from s p (last a) (kept a)

abbrev pub script : List ℕ → Result ScriptLines (ℕ × Reason)
script bytes = rest_of empty_script start (start_of bytes)
