-- What a driver knows of a session's trees.
--
--   AreKept codes s        == there is a code for each tree that was interned, at its number; those of the live trees are theirs
--   compared codes a b     == Yes where there are trees of both numbers, and they are isomorphic; else No
--
-- Source: this project.
use Rattle.std.specs.Prelude.{◌≡◌, ℕ, List, length, Bool, true, false, Option, Some, None, slice_get}
use Rattle.bs_tree.specs.Isomorphic.{isomorphic}
use Rattle.bs_tree.specs.Code.{tree_of}
use Rattle.bs_names.specs.Names.{at}
use Rattle.bs_session.specs.Machine.{State}
use Rattle.bs_names.specs.declared.live.LiveTree.{LiveTree}
use Rattle.bs_session.specs.declared.answer.Answer.{Answer}
use Rattle.bs_session.specs.declared.answer.Answer.TheVariants.{Yes, No}

pub record AreKept (codes : List (List (ℕ × ℕ))) (s : State) : Type 0 where
  pub all : length codes ≡ s.interned
  pub each : (name : List ℕ) (tree : LiveTree) → at name s.space.live ≡ Some tree → slice_get codes tree.number ≡ Some tree.code

abbrev pub yes_or_no : Bool → Answer
yes_or_no true = Yes
yes_or_no false = No

abbrev pub compared_codes : Option (List (ℕ × ℕ)) → Option (List (ℕ × ℕ)) → Answer
compared_codes None b = No
compared_codes (Some a) None = No
compared_codes (Some a) (Some b) = yes_or_no (isomorphic (tree_of a) (tree_of b))

abbrev pub compared : List (List (ℕ × ℕ)) → ℕ → ℕ → Answer
compared codes left right = compared_codes (slice_get codes left) (slice_get codes right)
