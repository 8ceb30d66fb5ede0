-- That a session works out no coefficient twice: what is counted are the terms of pairs that it needs and that are all different, and the lines
-- that it lists.
--
--   at_tree p            == the series and the tree of a series and a code
--   sum_terms ps         == the terms of some pairs
--   IsOf ns p            == the code is one of a tree, and the pair with that tree is one of ns
--   RisesOnce script session n n' == THE COUNTER HAS RISEN from n to n' by the terms of pairs that the session needs, each once, and by the lines
--                           of splittings and partitions that it lists
--   AreDistinct es       == no expression stands at two places
--   IsKept es sheet p    == the sheet has a coefficient of the pair, under the place of its expression
--   IsDue es ns sheet p  == the pair is one of ns, and the sheet has no coefficient of it
--   IsOnce ns s given sheet n n' == so far a number has risen by the terms of pairs of ns that are all different, and by those that are counted of the
--                           pairs that wait; the former are in the sheet, the latter are not, with the pair whose look is now answered with nothing.
--                           The number is the counter with the lines that are still to be listed, beginning at those of the whole session
--
-- Source: this project.
use Rattle.std.specs.Prelude.{◌≡◌, ℕ, ◌+◌, ◌<◌, List, [], ◌∷◌, length, map, Option, None, IsSome}
use Rattle.std.specs.List.{AllByRecursion}
use Rattle.bs_frac.specs.declared.coef.Coef.{Coef}
use Rattle.bs_tree.specs.Tree.{Tree}
use Rattle.bs_tree.specs.Code.{tree_of, IsCode}
use Rattle.bs_script.specs.Blocks.{ScriptLines, SessionLines}
use Rattle.bs_series.specs.Series.{Series}
use Rattle.bs_series.specs.PlanItems.{terms}
use Rattle.bs_series.specs.SeriesCode.{Code}
use Rattle.bs_series.specs.Needed.{Among, AreApart}
use Rattle.bs_series.specs.Expressions.{series_at, IsOnlyAt}
use Rattle.bs_alone.specs.Sheet.{Sheet, kept}
use Rattle.bs_eval.specs.Needs.{tree_pair}
use Rattle.bs_eval.specs.declared.pair.Pair.{Pair}
use Rattle.bs_session.specs.Needed.{session_need}
use Rattle.bs_session.specs.Listing.{session_listed}
use Rattle.bs_session.specs.Counted.{session_begun, session_waited}
use Rattle.bs_session.specs.Machine.{State}

abbrev pub at_tree : Series × Code → Series × Tree
at_tree p = (p.0, tree_of p.1)

abbrev pub sum_terms : List (Series × Code) → ℕ
sum_terms [] = 0
sum_terms (p ∷ ps) = terms p.0 p.1 + sum_terms ps

pub record IsOf (ns : List (Series × Tree)) (p : Series × Code) : Type 0 where
  pub canonical : IsCode p.1
  pub needed : Among (at_tree p) ns

pub record RisesOnce (script : ScriptLines) (session : SessionLines) (before now : ℕ) : Type 0 where
  pub pairs : List (Series × Code)
  pub apart : AreApart (map at_tree pairs)
  pub needed : AllByRecursion (IsOf (session_need script session)) pairs
  pub risen : now ≡ before + (sum_terms pairs + session_listed script session)

-- ---- between two steps
abbrev pub AreDistinct : List Series → Type 0
AreDistinct es = (i : ℕ) → i < length es → IsOnlyAt es i

pub record IsKept (es : List Series) (sheet : Sheet) (p : Series × Code) : Type 0 where
  pub id : ℕ
  pub known : id < length es
  pub is : series_at es id ≡ p.0
  pub kept : IsSome (kept sheet id p.1)

pub record IsDue (es : List Series) (ns : List (Series × Tree)) (sheet : Sheet) (p : Pair) : Type 0 where
  pub known : p.series < length es
  pub needed : Among (tree_pair es p) ns
  pub missing : kept sheet p.series p.code ≡ None

pub record IsOnce (ns : List (Series × Tree)) (s : State) (given : Option Coef) (sheet : Sheet) (before now : ℕ) : Type 0 where
  pub pairs : List (Series × Code)
  pub apart : AreApart (map at_tree pairs)
  pub needed : AllByRecursion (IsOf ns) pairs
  pub kept : AllByRecursion (IsKept s.space.book sheet) pairs
  pub due : AllByRecursion (IsDue s.space.book ns sheet) (session_waited s given)
  pub counted : now ≡ before + (sum_terms pairs + session_begun s)
