-- The lines that the commands of a session list.
--
--   lines_listed r          == those of a command that is carried out, be it accepted or refused for the length of its reply; none where it
--                              is refused for its words or its name
--   session_listed script s == HOW MANY LINES a session lists
--
-- Source: this project.
use Rattle.std.specs.Prelude.{ℕ, ◌∷◌, sum_by}
use Rattle.bs_script.specs.Blocks.{ScriptLines, SessionLines}
use Rattle.bs_session.specs.Needed.{Ran, session_run}
use Rattle.bs_command.specs.Listing.{lines_of}

abbrev pub lines_listed : Ran → ℕ
lines_listed r = lines_of r.known r.line

abbrev pub session_listed : ScriptLines → SessionLines → ℕ
session_listed script session = sum_by lines_listed (session_run script session)
