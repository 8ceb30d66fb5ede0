-- How many turns of the evaluation the commands of a session take at most.
--
--   toil ts known used ls == for the command lines, one after another
--
-- A number that falls with each question of a session is made of this: no bound on time.
--
-- Source: this project.
use Rattle.std.specs.Prelude.{ℕ, ◌+◌, List, [], ◌∷◌}
use Rattle.bs_tableau.specs.Words.{words}
use Rattle.bs_names.specs.Known.{Known, Tables}
use Rattle.bs_session.specs.Replies.{turn}
use Rattle.bs_command.specs.Toil.{toil_of}

abbrev pub toil : Tables → Known → ℕ → List (List ℕ) → ℕ
toil tables known used [] = 0
toil tables known used (line ∷ lines) =
    let now = turn tables known used line in toil_of known (words line) + toil tables now.known now.used lines
