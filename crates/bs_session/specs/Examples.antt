-- What a worked session lists and needs, computed from the definitions.
use Rattle.std.specs.Prelude.{◌≡◌, ℕ, List, [], ◌∷◌, codes, refl, map, sum_by}
use Rattle.std.specs.Fmt.{digits}
use Rattle.bs_frac.specs.Fraction.{whole}
use Rattle.bs_levels.specs.Words.{number_of}
use Rattle.bs_script.specs.Blocks.{ScriptLines, SessionLines}
use Rattle.bs_tableau.specs.Table.{Table}
use Rattle.bs_tree.specs.Tree.{Tree}
use Rattle.bs_tree.specs.Code.{tree_of}
use Rattle.bs_series.specs.Series.{Series, method, compose, modifying}
use Rattle.bs_series.specs.SeriesCode.{Code}
use Rattle.bs_series.specs.PlanItems.{terms}
use Rattle.bs_series.specs.Needed.{need}
use Rattle.bs_command.specs.Commands.{command}
use Rattle.bs_command.specs.Needed.{need_of}
use Rattle.bs_session.specs.Needed.{session_need}
use Rattle.bs_command.specs.Listing.{lines_of}
use Rattle.bs_session.specs.Listing.{session_listed}

-- the explicit Euler method
abbrev euler : Table
euler = record { stages = 1; colours = 1; rows = (whole 0 ∷ []) ∷ (whole 1 ∷ []) ∷ [] }

abbrev script : ScriptLines
script = record { table_names = codes "EULER" ∷ []; tables = euler ∷ []; sessions = [] }

abbrev session : SessionLines
session = record {
  above = 1;
  commands = codes "tree t 1,2" ∷ codes "series a method EULER" ∷ codes "series c compose a a" ∷ codes "split t" ∷ codes "split u" ∷ codes "coeff c t" ∷ [];
}

-- the series, its composition with itself, and the trees of one node and of two
abbrev a : Series
a = method 0 1

abbrev c : Series
c = compose a a

abbrev one : Code
one = (1, 0) ∷ []

abbrev two : Code
two = (1, 0) ∷ (2, 0) ∷ []

abbrev at_tree : Series × Code → Series × Tree
at_tree p = (p.0, tree_of p.1)

-- `split t` lists three splittings; `split u` is refused, and lists none
lines : session_listed script session ≡ 3
unfolding command lines_of number_of digits
lines = refl

-- of three different pairs
need_session : session_need script session ≡ map at_tree ((c, two) ∷ (a, two) ∷ (a, one) ∷ (a, one) ∷ (a, two) ∷ [])
unfolding command need_of number_of digits
need_session = refl

-- which have five terms
terms_needed : sum_by (λ (p : Series × Code). terms p.0 p.1) ((c, two) ∷ (a, two) ∷ (a, one) ∷ []) ≡ 5
terms_needed = refl

-- what the modifying series needs at one node: itself, and its divisor
need_modifying : need (modifying a) (tree_of one) ≡ map at_tree ((modifying a, one) ∷ (a, one) ∷ [])
need_modifying = refl

terms_modifying : sum_by (λ (p : Series × Code). terms p.0 p.1) ((modifying a, one) ∷ (a, one) ∷ []) ≡ 2
terms_modifying = refl
