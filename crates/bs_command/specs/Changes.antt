-- What the function of a command says of the command's definition.
--
--   known_after space c  == what is known after a change
--   IsApt space c        == a name that is given is free, and one that is dropped is that of a tree; a series that is named is in the book
--   Says space o old new c == the outcome o is the reply behind the old text, with a change
--   Asks space o l r     == it is told by the answer to a question about two live trees
--   Begins ts space o p ns w == it is told by the work w, which is sound, takes at most p turns and needs the pairs ns at most
--   Carries ts space o p ns old new w c == the outcome o is what has been carried out
--   Refuses f o          == the fault is the error that the outcome is; want of memory is free
--   Lists n m m' c       == where n lines are listed the counter has risen by them, from m to m'; a question lists none, nor does work that is begun
--   ListsNone n m m' f   == a refused command lists none, and the counter stands; want of memory is free
--
-- Source: this project.
use Rattle.std.specs.Prelude.{◌≡◌, ℕ, ◌+◌, ◌<◌, ◌≤◌, List, ◌++◌, length, None, IsSome, Ok, Err}
use Rattle.bs_tree.specs.Tree.{Tree}
use Rattle.bs_tableau.specs.Table.{Table}
use Rattle.bs_series.specs.Series.{Series}
use Rattle.bs_series.specs.Expressions.{series_at}
use Rattle.bs_names.specs.Names.{at}
use Rattle.bs_names.specs.Known.{Known, with_tree, without_tree, with_series}
use Rattle.bs_names.specs.Space.{Space, known_of}
use Rattle.bs_names.specs.Space.{IsLive}
use Rattle.bs_command.specs.Commands.{Outcome, same_reply}
use Rattle.bs_work.specs.WorkNeeded.{AreNeeded}
use Rattle.bs_work.specs.Works.{IsWork, IsHeldWork, whole_reply, work_left}
use Rattle.bs_command.specs.declared.error.Fault.{Fault}
use Rattle.bs_command.specs.declared.error.Fault.TheVariants.{Refused, Memory}
use Rattle.bs_names.specs.declared.live.LiveTree.{LiveTree}
use Rattle.bs_command.specs.declared.change.Change.{Change}
use Rattle.bs_command.specs.declared.change.Change.TheVariants.{Nothing, Name, Drop, Define}
use Rattle.bs_command.specs.declared.change.Carried.{Carried}
use Rattle.bs_command.specs.declared.change.Carried.TheVariants.{Replied, Asked, Begun}
use Rattle.bs_work.specs.declared.work.Work.{Work}
use Rattle.bs_eval.specs.declared.memory.Memory.{Memory as Left}

abbrev pub known_after : Space → Change → Known
known_after space Nothing = known_of space
known_after space (Name name code) = with_tree (known_of space) name.now code
known_after space (Drop name) = without_tree (known_of space) name.now
known_after space (Define name id) = with_series (known_of space) name.now (series_at space.book id)

abbrev pub IsApt : Space → Change → Type 0
IsApt space Nothing = Unit {0}
IsApt space (Name name code) = at name.now space.live ≡ None
IsApt space (Drop name) = IsSome (at name.now space.live)
IsApt space (Define name id) = (id < length space.book) × (at name.now space.series ≡ None)

-- a reply behind the old text, with a change
abbrev pub Says : Space → Outcome → List ℕ → List ℕ → Change → Type 0
Says space (Ok answer) old new change = (answer.0 ≡ known_after space change) × (new ≡ old ++ answer.1) × IsApt space change
Says space (Err error) old new change = ⊥

-- a reply to come, about these two trees
abbrev pub Asks : Space → Outcome → LiveTree → LiveTree → Type 0
Asks space outcome left right =
    (outcome ≡ Ok (known_of space, same_reply left.code right.code)) × IsLive space left × IsLive space right

-- a reply to come, once coefficients are worked out
pub record Begins (tables : List Table) (space : Space) (outcome : Outcome) (most : ℕ) (ns : List (Series × Tree)) (w : Work) : Type 0 where
  pub is : outcome ≡ Ok (known_of space, whole_reply tables space.book w)
  pub work : IsWork tables space.book w
  pub held : (m : Left) → IsHeldWork space.book m w
  pub left : work_left space.book w ≤ most
  pub needs : AreNeeded space.book ns w

abbrev pub Carries : List Table → Space → Outcome → ℕ → List (Series × Tree) → List ℕ → List ℕ → Work → Carried → Type 0
Carries tables space outcome most ns old new w (Replied change) = Says space outcome old new change
Carries tables space outcome most ns old new w (Asked left right) = Asks space outcome left right × (new ≡ old)
Carries tables space outcome most ns old new w Begun = Begins tables space outcome most ns w × (new ≡ old)

abbrev pub Lists : ℕ → ℕ → ℕ → Carried → Type 0
Lists lines before after (Replied change) = after ≡ before + lines
Lists lines before after (Asked left right) = (lines ≡ 0) × (after ≡ before)
Lists lines before after Begun = (lines ≡ 0) × (after ≡ before)

abbrev pub ListsNone : ℕ → ℕ → ℕ → Fault → Type 0
ListsNone lines before after (Refused error) = (lines ≡ 0) × (after ≡ before)
ListsNone lines before after (Memory cause) = Unit {0}

abbrev pub Refuses : Fault → Outcome → Type 0
Refuses (Refused error) outcome = outcome ≡ Err error
Refuses (Memory cause) outcome = Unit {0}
