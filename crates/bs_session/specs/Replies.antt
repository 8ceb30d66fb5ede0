-- The replies of a session.
--
--   Turn                       == what is known after a command, how many bytes of accepted replies there are, and its reply
--   turn ts known used line    == the turn of a command line: an error line for a refused command, which changes nothing; a reply
--                                 by which the accepted ones would have more than MAX_REPLIES bytes is refused
--   replies ts known used ls   == the replies of the command lines in their order, one after another
--   session_replies script s   == THE REPLIES of a session of a script, which sees the tableaux that stand above it
--
-- Source: this project.
-- The code asks others to compare trees and to remember coefficients, and goes on with their answers.
use Rattle.std.specs.Prelude.{ℕ, ◌+◌, List, [], ◌∷◌, ◌++◌, length, Ok, Err, nat_le, if◌then◌else◌}
use Rattle.bs_tableau.specs.Words.{words}
use Rattle.bs_script.specs.Blocks.{ScriptLines, SessionLines}
use Rattle.bs_reply.specs.Lines.{error_line}
use Rattle.bs_command.specs.Errors.{error_number}
use Rattle.bs_names.specs.Known.{Known, Tables, none_known}
use Rattle.bs_names.specs.Known.{tables_seen}
use Rattle.bs_command.specs.Commands.{Outcome, command}
use Rattle.bs_session.specs.declared.TheConstants.{MAX_REPLIES}
use Rattle.bs_command.specs.declared.error.Error.{Error}
use Rattle.bs_command.specs.declared.error.Error.TheVariants.{Replies}

pub record Turn : Type 0 where
  pub known : Known
  pub used : ℕ
  pub reply : List ℕ

abbrev pub refused : Known → ℕ → Error → Turn
refused known used error = record { known = known; used = used; reply = error_line (error_number error) }

abbrev pub settled : Known → ℕ → Outcome → Turn
settled known used (Err error) = refused known used error
settled known used (Ok answer) =
    if nat_le (used + length answer.1) MAX_REPLIES
    then record { known = answer.0; used = used + length answer.1; reply = answer.1 }
    else refused known used Replies

abbrev pub turn : Tables → Known → ℕ → List ℕ → Turn
turn tables known used line = settled known used (command tables known (words line))

abbrev pub replies : Tables → Known → ℕ → List (List ℕ) → List ℕ
replies tables known used [] = []
replies tables known used (line ∷ lines) =
    let now = turn tables known used line in now.reply ++ replies tables now.known now.used lines

abbrev pub session_replies : ScriptLines → SessionLines → List ℕ
session_replies script session = replies (tables_seen script session.above) none_known 0 session.commands
