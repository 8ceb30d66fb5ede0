-- The texts of a script's sessions.
--
--   session_text s n ss == the head of session n of a script, where the first is 0, and its replies; heads count from 1
--   text_at s n         == the same of the script's own session n; nothing past its last one
--
-- Source: this project; scripts are those of bs_script, replies those of bs_session.
use Rattle.std.specs.Prelude.{ℕ, ◌+◌, List, [], ◌++◌, length, nat_lt, if◌then◌else◌}
use Rattle.bs_script.specs.Blocks.{ScriptLines, SessionLines}
use Rattle.bs_reply.specs.Lines.{head_line}
use Rattle.bs_session.specs.Machine.{session_at}
use Rattle.bs_session.specs.Replies.{session_replies}

abbrev pub session_text : ScriptLines → ℕ → SessionLines → List ℕ
session_text s number session = head_line (number + 1) ++ session_replies s session

abbrev pub text_at : ScriptLines → ℕ → List ℕ
text_at s number = if nat_lt number (length s.sessions) then session_text s number (session_at s number) else []
