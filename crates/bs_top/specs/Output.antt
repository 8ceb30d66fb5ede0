-- The text of an input: the replies of its sessions, or the line that is refused and why.
--
--   sessions_text s n sss  == the text of each of these sessions, of which the first is session n: its head and its replies
--   text_of input          == THE TEXT: what is written for an input that is a script; else (line, reason)
--
-- Source: this project; scripts are those of bs_script, the text of one session that of bs_workers.
-- The code has a text for each session, by itself or from workers.
use Rattle.std.specs.Prelude.{ℕ, suc, List, [], ◌∷◌, ◌++◌, Result, Ok, Err}
use Rattle.bs_script.specs.Blocks.{ScriptLines, SessionLines}
use Rattle.bs_script.specs.Grammar.{script}
use Rattle.bs_script.specs.declared.reason.Reason.{Reason}
use Rattle.bs_workers.specs.Texts.{session_text}

abbrev pub sessions_text : ScriptLines → ℕ → List SessionLines → List ℕ
sessions_text s number [] = []
sessions_text s number (session ∷ sessions) = session_text s number session ++ sessions_text s (suc number) sessions

abbrev pub script_text : Result ScriptLines (ℕ × Reason) → Result (List ℕ) (ℕ × Reason)
script_text (Ok s) = Ok (sessions_text s 0 s.sessions)
script_text (Err refusal) = Err refusal

unfoldable pub text_of : List ℕ → Result (List ℕ) (ℕ × Reason)
text_of input = script_text (script input)
