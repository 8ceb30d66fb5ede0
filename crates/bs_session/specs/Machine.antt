-- The machine of a session: what it holds between two steps, and what a step says.
--
--   State                    == the session's place in the script, how many commands are carried out, how many trees were interned,
--                               the bytes of accepted replies, what is named and the book of series, the replies so far, what was
--                               asked last, the work on a reply that wants coefficients, what its evaluations left behind, and whether
--                               memory ran out
--   commands_of, tables_of   == the command lines of a session of a script, and the tableaux that it sees
--   said script s            == the replies so far, and those of the commands that are left: it never changes
--   outcome_at script s      == what the command at the state's place answers
--   IsTruthful script s answer == Go where nothing was asked; Yes exactly where the compared trees are isomorphic, and else No; of a value
--                               that was looked up, what is Found is the written value
--   is_yes answer            == the answer is Yes
--   found_of answer          == the value that is found
--   Evaluates script s       == the work is sound, and comes to the reply of the command at the place
--   whole_run, run_left script s == the commands of the session, and those that are left, from the place on
--   need_here script s       == what the command at the place needs
--   need_whole script s      == what the session needs
--   lines_here, lines_left script s == how many lines the command at the place lists, and how many those do that are left
--   IsSound script s         == what holds between two steps
--   Takes script old new step == the trees that are live before and after a step, and what the step says of them
--   left script s            == a number that falls at each step but the last
--
-- Source: this project.
use Rattle.std.specs.Prelude.{◌≡◌, ℕ, ◌+◌, ◌-◌, ◌*◌, ◌<◌, ◌≤◌, Bool, true, false, List, [], ◌++◌, length, drop, sum_by, Option, Some, None, Ok, slice_index_or, slice_get, suc}
use Rattle.bs_tree.specs.Isomorphic.{isomorphic}
use Rattle.bs_tree.specs.Tree.{Tree}
use Rattle.bs_tree.specs.Code.{tree_of}
use Rattle.bs_tableau.specs.Words.{words}
use Rattle.bs_script.specs.Blocks.{ScriptLines, SessionLines}
use Rattle.bs_script.specs.declared.TheConstants.{MAX_COMMANDS}
use Rattle.bs_names.specs.Names.{at, Sets}
use Rattle.bs_frac.specs.declared.coef.Coef.{Coef}
use Rattle.bs_series.specs.Series.{Series}
use Rattle.bs_series.specs.Accepted.{Suits}
use Rattle.bs_tableau.specs.Table.{Table}
use Rattle.bs_eval.specs.Values.{IsMemory}
use Rattle.bs_eval.specs.declared.memory.Memory.{Memory}
use Rattle.bs_names.specs.Known.{Tables, plain}
use Rattle.bs_command.specs.Commands.{Outcome, command}
use Rattle.bs_session.specs.Replies.{settled, replies}
use Rattle.bs_names.specs.Known.{tables_seen}
use Rattle.bs_names.specs.Space.{Space, known_of}
use Rattle.bs_work.specs.Works.{IsWork, IsHeldWork, IsHanded, StepsOn, whole_reply, work_left}
use Rattle.bs_work.specs.WorkNeeded.{AreNeeded, NeededOn}
use Rattle.bs_session.specs.Toil.{toil}
use Rattle.bs_session.specs.Needed.{Ran, run, session_run, session_need, session_trees, IsBehind}
use Rattle.bs_command.specs.Needed.{need_of}
use Rattle.bs_command.specs.Listing.{lines_of}
use Rattle.bs_session.specs.Listing.{lines_listed}
use Rattle.bs_names.specs.Space.{IsLive}
use Rattle.bs_command.specs.Changes.{Asks}
use Rattle.bs_session.specs.declared.TheConstants.{MAX_REPLIES}
use Rattle.bs_names.specs.declared.live.LiveTree.{LiveTree}
use Rattle.bs_session.specs.declared.answer.Answer.{Answer}
use Rattle.bs_session.specs.declared.answer.Answer.TheVariants.{Go, Yes, No, Found, Missing}
use Rattle.bs_session.specs.declared.asked.Asked.{Asked}
use Rattle.bs_session.specs.declared.asked.Asked.TheVariants as asked
use Rattle.bs_work.specs.declared.step.Step.{Step}
use Rattle.bs_work.specs.declared.step.Step.TheVariants.{Intern, Release, Same, Look, Keep, Done}
use Rattle.bs_work.specs.declared.work.Work.{Work}

pub record State : Type 0 where
  pub number : ℕ
  pub place : ℕ
  pub interned : ℕ
  pub used : ℕ
  pub space : Space
  pub out : List ℕ
  pub asked : Asked
  pub work : Work
  pub memory : Memory
  pub failed : Bool

abbrev pub no_session : SessionLines
no_session = record { above = 0; commands = [] }

abbrev pub session_at : ScriptLines → ℕ → SessionLines
session_at script number = slice_index_or script.sessions number no_session

abbrev pub commands_of : ScriptLines → State → List (List ℕ)
commands_of script s = (session_at script s.number).commands

abbrev pub tables_of : ScriptLines → State → Tables
tables_of script s = tables_seen script (session_at script s.number).above

abbrev pub plain_of : ScriptLines → State → List Table
plain_of script s = plain (tables_of script s)

abbrev pub said : ScriptLines → State → List ℕ
said script s = s.out ++ replies (tables_of script s) (known_of s.space) s.used (drop s.place (commands_of script s))

abbrev pub line_at : ScriptLines → State → List ℕ
line_at script s = slice_index_or (commands_of script s) s.place []

abbrev pub outcome_at : ScriptLines → State → Outcome
outcome_at script s = command (tables_of script s) (known_of s.space) (words (line_at script s))

abbrev pub whole_run : ScriptLines → State → List Ran
whole_run script s = session_run script (session_at script s.number)

abbrev pub run_left : ScriptLines → State → List Ran
run_left script s = run (tables_of script s) (known_of s.space) s.used (drop s.place (commands_of script s))

abbrev pub need_here : ScriptLines → State → List (Series × Tree)
need_here script s = need_of (known_of s.space) (words (line_at script s))

abbrev pub need_whole : ScriptLines → State → List (Series × Tree)
need_whole script s = session_need script (session_at script s.number)

abbrev pub lines_here : ScriptLines → State → ℕ
lines_here script s = lines_of (known_of s.space) (words (line_at script s))

abbrev pub lines_left : ScriptLines → State → ℕ
lines_left script s = sum_by lines_listed (run_left script s)

-- whether two trees are isomorphic
abbrev pub IsTrueOf : LiveTree → LiveTree → Answer → Type 0
IsTrueOf left right Go = ⊥
IsTrueOf left right Yes = isomorphic (tree_of left.code) (tree_of right.code) ≡ true
IsTrueOf left right No = isomorphic (tree_of left.code) (tree_of right.code) ≡ false
IsTrueOf left right (Found v) = ⊥
IsTrueOf left right Missing = ⊥

-- a value that the work awaits; Go where it was kept
abbrev pub IsTrueValue : List Table → List Series → Work → Answer → Type 0
IsTrueValue tables es work Go = Unit {0}
IsTrueValue tables es work Yes = ⊥
IsTrueValue tables es work No = ⊥
IsTrueValue tables es work (Found v) = IsHanded tables es work (Some v)
IsTrueValue tables es work Missing = Unit {0}

abbrev pub IsGo : Answer → Type 0
IsGo Go = Unit {0}
IsGo Yes = ⊥
IsGo No = ⊥
IsGo (Found v) = ⊥
IsGo Missing = ⊥

abbrev pub IsTruthfulOf : List Table → List Series → Work → Asked → Answer → Type 0
IsTruthfulOf tables es work asked.Nothing answer = IsGo answer
IsTruthfulOf tables es work (asked.Same left right) answer = IsTrueOf left right answer
IsTruthfulOf tables es work asked.Value answer = IsTrueValue tables es work answer

abbrev pub IsTruthful : ScriptLines → State → Answer → Type 0
IsTruthful script s answer = IsTruthfulOf (plain_of script s) s.space.book s.work s.asked answer

pub record Evaluates (script : ScriptLines) (s : State) : Type 0 where
  pub here : s.place < length (commands_of script s)
  pub work : IsWork (plain_of script s) s.space.book s.work
  pub held : IsHeldWork s.space.book s.memory s.work
  pub reply : outcome_at script s ≡ Ok (known_of s.space, whole_reply (plain_of script s) s.space.book s.work)
  pub needs : AreNeeded s.space.book (need_here script s) s.work
  pub unlisted : lines_here script s ≡ 0

-- what is asked is the command at the place
abbrev pub IsAsked : ScriptLines → State → Asked → Type 0
IsAsked script s asked.Nothing = Unit {0}
IsAsked script s (asked.Same left right) =
    (s.place < length (commands_of script s)) × Asks s.space (outcome_at script s) left right × (lines_here script s ≡ 0)
IsAsked script s asked.Value = Evaluates script s

-- each live tree has a number below n
abbrev pub AreNumbered : List (List ℕ × LiveTree) → ℕ → Type 0
AreNumbered live n = (name : List ℕ) (tree : LiveTree) → at name live ≡ Some tree → tree.number < n

-- no two have one number
abbrev pub AreApart : List (List ℕ × LiveTree) → Type 0
AreApart live = (a b : List ℕ) (x y : LiveTree) → at a live ≡ Some x → at b live ≡ Some y → x.number ≡ y.number → a ≡ b

pub record IsSound (script : ScriptLines) (s : State) : Type 0 where
  pub here : s.number < length script.sessions
  pub few : length (commands_of script s) ≤ MAX_COMMANDS
  pub place : s.place ≤ length (commands_of script s)
  pub interned : s.interned ≤ s.place
  pub used : s.used ≤ MAX_REPLIES
  pub numbered : AreNumbered s.space.live s.interned
  pub apart : AreApart s.space.live
  pub suits : Suits (plain_of script s) s.space.book
  pub memory : IsMemory (plain_of script s) s.space.book s.memory
  pub asked : IsAsked script s s.asked
  pub run : IsBehind (whole_run script s) (run_left script s) s.interned

-- whether the answer is yes
abbrev pub is_yes : Answer → Bool
is_yes Go = false
is_yes Yes = true
is_yes No = false
is_yes (Found v) = false
is_yes Missing = false

abbrev pub found_of : Answer → Option Coef
found_of Go = None
found_of Yes = None
found_of No = None
found_of (Found v) = Some v
found_of Missing = None

abbrev pub SaysOn : Step → List ℕ → List ℕ → Type 0
SaysOn (Intern tree code) old new = new ≡ old
SaysOn (Release tree) old new = new ≡ old
SaysOn (Same left right) old new = new ≡ old
SaysOn (Look id code) old new = new ≡ old
SaysOn (Keep id code v) old new = new ≡ old
SaysOn (Done reply) old new = reply.items ≡ old

abbrev pub IsDone : Step → Type 0
IsDone (Intern tree code) = ⊥
IsDone (Release tree) = ⊥
IsDone (Same left right) = ⊥
IsDone (Look id code) = ⊥
IsDone (Keep id code v) = ⊥
IsDone (Done reply) = Unit {0}

-- a command named a tree, which has the next number; `series` are the series that were named before it
pub record Interns (script : ScriptLines) (old new : State) (tree : ℕ) (code : List (ℕ × ℕ)) : Type 0 where
  pub name : List ℕ
  pub next : tree ≡ old.interned
  pub counted : new.interned ≡ old.interned + 1
  pub free : at name old.space.live ≡ None
  pub live : Sets old.space.live new.space.live name (Some (record { number = tree; code = code }))
  pub line : List ℕ
  pub read : slice_get (commands_of script old) (new.place - 1) ≡ Some line
  pub reply : List ℕ
  pub series : List (List ℕ × Series)
  pub named : command (tables_of script old) (known_of (record old.space { series = series })) (words line) ≡ Ok (known_of new.space, reply)

pub record Releases (old new : State) (tree : ℕ) : Type 0 where
  pub name : List ℕ
  pub given : LiveTree
  pub was : at name old.space.live ≡ Some given
  pub is : given.number ≡ tree
  pub gone : Sets old.space.live new.space.live name None
  pub counted : new.interned ≡ old.interned

pub record Compares (old new : State) (left right : ℕ) : Type 0 where
  pub first : LiveTree
  pub second : LiveTree
  pub asked : new.asked ≡ asked.Same first second
  pub left_is : first.number ≡ left
  pub right_is : second.number ≡ right
  pub left_live : IsLive old.space first
  pub right_live : IsLive old.space second
  pub live : new.space.live ≡ old.space.live
  pub counted : new.interned ≡ old.interned

-- a value is looked up or kept; what is looked up is needed
pub record Works (script : ScriptLines) (old new : State) (step : Step) : Type 0 where
  pub asked : new.asked ≡ asked.Value
  pub is : StepsOn (plain_of script new) new.space.book new.work step
  pub needed : NeededOn new.space.book (need_whole script new) step
  pub live : new.space.live ≡ old.space.live
  pub counted : new.interned ≡ old.interned

abbrev pub Takes : ScriptLines → State → State → Step → Type 0
Takes script old new (Intern tree code) = Interns script old new tree code × (new.asked ≡ asked.Nothing)
Takes script old new (Release tree) = Releases old new tree × (new.asked ≡ asked.Nothing)
Takes script old new (Same left right) = Compares old new left right
Takes script old new (Look id code) = Works script old new (Look id code)
Takes script old new (Keep id code v) = Works script old new (Keep id code v)
Takes script old new (Done reply) =
    (old.space.live ≡ []) × (new.space.live ≡ []) × (new.interned ≡ old.interned) × (new.asked ≡ asked.Nothing)
    × (new.interned ≡ session_trees script (session_at script new.number)) × (lines_left script new ≡ 0)

-- ---- what is left
abbrev pub idle : Asked → ℕ
idle asked.Nothing = 1
idle (asked.Same left right) = 0
idle asked.Value = 0

-- of the commands behind the one at the place
abbrev pub toil_behind : ScriptLines → State → ℕ
toil_behind script s =
    let now = settled (known_of s.space) s.used (outcome_at script s) in
    toil (tables_of script s) now.known now.used (drop (suc s.place) (commands_of script s))

abbrev pub toil_from : ScriptLines → State → Asked → ℕ
toil_from script s asked.Nothing = toil (tables_of script s) (known_of s.space) s.used (drop s.place (commands_of script s))
toil_from script s (asked.Same left right) = toil (tables_of script s) (known_of s.space) s.used (drop s.place (commands_of script s))
toil_from script s asked.Value = work_left s.space.book s.work + toil_behind script s

abbrev pub left : ScriptLines → State → ℕ
left script s =
    3 * (length (commands_of script s) - s.place) + length s.space.live + idle s.asked + toil_from script s s.asked
