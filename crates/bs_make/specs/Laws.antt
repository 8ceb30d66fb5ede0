-- Laws of the made input.
--
--   MadeInputsAreScripts == the reader of scripts refuses no made input: it is the script of its seed
--   HasMadeSessions      == that script has 64 sessions
--   HasMadeCommands      == each of them has 35 commands
--
-- Source: this project.
use Rattle.std.specs.Prelude.{◌≡◌, ℕ, length, Ok}
use Rattle.std.specs.List.{AllByRecursion}
use Rattle.bs_script.specs.Grammar.{script}
use Rattle.bs_make.specs.Made.{made_text}
use Rattle.bs_make.specs.Script.{made_script}
use Rattle.bs_make.specs.declared.TheConstants.{MADE_SESSIONS, MADE_COMMANDS}

abbrev pub MadeInputsAreScripts : Type 0
MadeInputsAreScripts = (seed : ℕ) → script (made_text seed) ≡ Ok (made_script seed)

abbrev pub HasMadeSessions : Type 0
HasMadeSessions = (seed : ℕ) → length (made_script seed).sessions ≡ MADE_SESSIONS

abbrev pub HasMadeCommands : Type 0
HasMadeCommands = (seed : ℕ) → AllByRecursion (λ session. length session.commands ≡ MADE_COMMANDS) (made_script seed).sessions
