-- What the functions of the reader say of the grammar.
--
--   Fails fault said     == the fault is what the grammar says, or memory ran out
--   place_at at_start    == at the start, or outside
--   line_at s at_start ws == the outcome of a line with these words there
--   IsOpening s o        == a tableau that begins has a new name, and numbers of stages and colours in their range; there is room for it
--   after_first s o      == the outcome of a line with this opening
--   after_row s name t o == the outcome of a line in a tableau, of which t has been read now
--   after_command s c line o == the outcome of a line in a session with these commands
--
-- Source: this project.
use Rattle.std.specs.Prelude.{◌≡◌, ◌<◌, ◌≤◌, ℕ, Bool, true, false, List, [], ◌∷◌, ◌++◌, length, Result, Ok, Err, ◌&&◌, if◌then◌else◌, codes}
use Rattle.std.specs.Str.{bytes_eq}
use Rattle.bs_tableau.specs.Table.{Table}
use Rattle.bs_tableau.specs.declared.TheConstants.{MAX_STAGES, MAX_COLOURS}
use Rattle.bs_script.specs.declared.TheConstants.{MAX_TABLES}
use Rattle.bs_script.specs.Blocks.{ScriptLines, has_name, with_table, with_session}
use Rattle.bs_script.specs.Grammar.{Place, Outcome, format_line, block_line}
use Rattle.bs_script.specs.Grammar.Place.{start, outside, in_table, in_session}
use Rattle.bs_script.specs.declared.reason.Reason.{Reason}
use Rattle.bs_script.specs.declared.reason.Reason.TheVariants.{Word}
use Rattle.bs_script.specs.declared.reason.ScriptFault.{ScriptFault}
use Rattle.bs_script.specs.declared.reason.ScriptFault.TheVariants.{Refused, Memory}
use Rattle.bs_script.specs.declared.opening.Opening.{Opening}
use Rattle.bs_script.specs.declared.opening.Opening.TheVariants as opening
use Rattle.bs_script.specs.declared.reader.Inside.{Inside}
use Rattle.bs_script.specs.declared.reader.Inside.TheVariants.{More, Ended}

abbrev pub Fails : ScriptFault → Result ScriptLines (ℕ × Reason) → Type 0
Fails (Memory cause) said = Unit {0}
Fails (Refused line reason) said = said ≡ Err (line, reason)

abbrev pub place_at : Bool → Place
place_at true = start
place_at false = outside

abbrev pub line_at : ScriptLines → Bool → List (List ℕ) → Outcome
line_at s at_start [] = Err Word
line_at s at_start (first ∷ more) =
    if at_start && bytes_eq first (codes "format") then format_line s more else block_line s (first ∷ more)

abbrev pub place_in : Opening → Place
place_in opening.Format = outside
place_in (opening.Tableau name stages colours) =
    in_table name.now (record { stages = stages; colours = colours; rows = [] })
place_in opening.Session = in_session []

abbrev pub IsOpening : ScriptLines → Opening → Type 0
IsOpening s opening.Format = Unit {0}
IsOpening s (opening.Tableau name stages colours) =
    (has_name s name.now ≡ false) × (length s.tables < MAX_TABLES) × (0 < stages) × (stages ≤ MAX_STAGES) × (0 < colours) × (colours ≤ MAX_COLOURS)
IsOpening s opening.Session = Unit {0}

abbrev pub after_first : ScriptLines → Result Opening Reason → Outcome
after_first s (Ok o) = Ok (s, place_in o)
after_first s (Err reason) = Err reason

abbrev pub after_row : ScriptLines → List ℕ → Table → Result Inside Reason → Outcome
after_row s name t (Ok More) = Ok (s, in_table name t)
after_row s name t (Ok Ended) = Ok (with_table s name t, outside)
after_row s name t (Err reason) = Err reason

abbrev pub after_command : ScriptLines → List (List ℕ) → List ℕ → Result Inside Reason → Outcome
after_command s commands line (Ok More) = Ok (s, in_session (commands ++ line ∷ []))
after_command s commands line (Ok Ended) = Ok (with_session s commands, outside)
after_command s commands line (Err reason) = Err reason
