-- The commands of a session as they are carried out, the coefficients that they need, and the trees that they name.
--
--   is_accepted used o   == an outcome is a reply, by which the accepted ones do not become too long where they have `used` bytes before
--   Ran                  == a command that is carried out: what was known before it, its words, what it answers, and whether that is accepted
--   run ts known used ls == the commands of the lines, one after another
--   session_run script s == THE COMMANDS of a session of a script
--   ran_need r           == what a command needs, where it is accepted or refused for the length of its reply alone; none where it is refused
--   session_need script s == THE PAIRS THAT A SESSION NEEDS; a pair may stand in it more than once
--   trees_named r        == 1 of an accepted `tree` command; 0 of every other
--   session_trees script s == HOW MANY TREES a session names
--   IsBehind all left n  == the commands that are left are the last of all, and those before them have named n trees
--
-- Source: this project.
use Rattle.std.specs.Prelude.{◌≡◌, ℕ, ◌+◌, Bool, true, false, cond, nat_le, length, sum_by, List, [], ◌∷◌, ◌++◌, flat_map, Option, Some, Ok, Err}
use Rattle.bs_tree.specs.Tree.{Tree as Shape}
use Rattle.bs_tableau.specs.Words.{words}
use Rattle.bs_script.specs.Blocks.{ScriptLines, SessionLines}
use Rattle.bs_series.specs.Series.{Series}
use Rattle.bs_names.specs.Known.{Known, Tables, none_known}
use Rattle.bs_command.specs.Commands.{Outcome, command}
use Rattle.bs_session.specs.Replies.{turn}
use Rattle.bs_names.specs.Known.{tables_seen}
use Rattle.bs_command.specs.Verbs.{verb_of}
use Rattle.bs_session.specs.declared.TheConstants.{MAX_REPLIES}
use Rattle.bs_command.specs.declared.verb.Verb.{Verb}
use Rattle.bs_command.specs.declared.verb.Verb.TheVariants.{Tree}
use Rattle.bs_command.specs.Needed.{need_of}

pub record Ran : Type 0 where
  pub known : Known
  pub line : List (List ℕ)
  pub outcome : Outcome
  pub accepted : Bool

abbrev pub is_accepted : ℕ → Outcome → Bool
is_accepted used (Ok answer) = nat_le (used + length answer.1) MAX_REPLIES
is_accepted used (Err error) = false

abbrev pub ran : Tables → Known → ℕ → List ℕ → Ran
ran tables known used text = record {
  known = known;
  line = words text;
  outcome = command tables known (words text);
  accepted = is_accepted used (command tables known (words text));
}

abbrev pub run : Tables → Known → ℕ → List (List ℕ) → List Ran
run tables known used [] = []
run tables known used (text ∷ lines) =
    let now = turn tables known used text in ran tables known used text ∷ run tables now.known now.used lines

abbrev pub session_run : ScriptLines → SessionLines → List Ran
session_run script session = run (tables_seen script session.above) none_known 0 session.commands

abbrev pub need_answered : Outcome → List (Series × Shape) → List (Series × Shape)
need_answered (Ok answer) pairs = pairs
need_answered (Err error) pairs = []

abbrev pub ran_need : Ran → List (Series × Shape)
ran_need r = need_answered r.outcome (need_of r.known r.line)

abbrev pub session_need : ScriptLines → SessionLines → List (Series × Shape)
session_need script session = flat_map ran_need (session_run script session)

-- ---- the trees that it names
abbrev pub is_tree_verb : Option Verb → Bool
is_tree_verb (Some Tree) = true
is_tree_verb _ = false

abbrev pub is_tree_line : List (List ℕ) → Bool
is_tree_line [] = false
is_tree_line (first ∷ more) = is_tree_verb (verb_of first)

abbrev pub named_if : Bool → Bool → ℕ
named_if true names = cond names 1 0
named_if false names = 0

abbrev pub trees_named : Ran → ℕ
trees_named r = named_if r.accepted (is_tree_line r.line)

abbrev pub session_trees : ScriptLines → SessionLines → ℕ
session_trees script session = sum_by trees_named (session_run script session)

-- ---- at a place of the session
pub record IsBehind (all rest : List Ran) (named : ℕ) : Type 0 where
  pub front : List Ran
  pub is : all ≡ front ++ rest
  pub trees : named ≡ sum_by trees_named front
