-- What a script is.
--
--   SessionLines        == a session: how many tableaux stand above it, and the lines of its commands
--   ScriptLines         == the names of the tableaux, the tableaux, and the sessions, each in the order of the script
--   empty_script        == no tableau and no session
--   has_name s name     == a tableau has this name
--   with_table s name t == the script with one more tableau
--   with_session s c    == the script with one more session, of these commands; the tableaux so far stand above it
--   IsSound s           == each tableau has a name, there are at most MAX_TABLES, no more of them stand above a session than there
--                          are, and no session has more than MAX_COMMANDS commands
--
-- Source: this project.
use Rattle.std.specs.Prelude.{ℕ, ◌≡◌, ◌≤◌, Bool, List, [], ◌∷◌, ◌++◌, length, All}
use Rattle.std.specs.Str.{bytes_eq}
use Rattle.std.specs.List.{list_any}
use Rattle.bs_tableau.specs.Table.{Table}
use Rattle.bs_script.specs.declared.TheConstants.{MAX_TABLES, MAX_COMMANDS}

pub record SessionLines : Type 0 where
  pub above : ℕ
  pub commands : List (List ℕ)

pub record ScriptLines : Type 0 where
  pub table_names : List (List ℕ)
  pub tables : List Table
  pub sessions : List SessionLines

abbrev pub empty_script : ScriptLines
empty_script = record { table_names = []; tables = []; sessions = [] }

abbrev pub has_name : ScriptLines → List ℕ → Bool
has_name s name = list_any (bytes_eq name) s.table_names

abbrev pub with_table : ScriptLines → List ℕ → Table → ScriptLines
with_table s name t = record s { table_names = s.table_names ++ name ∷ []; tables = s.tables ++ t ∷ [] }

abbrev pub with_session : ScriptLines → List (List ℕ) → ScriptLines
with_session s commands =
    record s { sessions = s.sessions ++ record { above = length s.tables; commands = commands } ∷ [] }

pub record IsSound (s : ScriptLines) : Type 0 where
  pub named : length s.table_names ≡ length s.tables
  pub few_tables : length s.tables ≤ MAX_TABLES
  pub above : All (λ session. session.above ≤ length s.tables) s.sessions
  pub few : All (λ session. length session.commands ≤ MAX_COMMANDS) s.sessions
