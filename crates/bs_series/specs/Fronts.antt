-- Written values over a list of tableaux and over a front of it.
--
--   HasMethodsBelow n s  == each method in the expression has a tableau with a number below n
--   SameOverFront        == an expression whose methods are below the length of a front of a list of tableaux has the same written
--                           values over the list as over the front
--   IsSameOverFronts es  == where expressions suit a front of a list of tableaux, each of them has the same written values over
--                           the list as over the front
--
-- Source: this project's own.
-- Values that are remembered for a whole list serve a book that was made over a front of it.
use Rattle.std.specs.Prelude.{◌≡◌, ℕ, ◌<◌, List, ◌++◌, length}
use Rattle.bs_tree.specs.Tree.{Tree}
use Rattle.bs_tableau.specs.Table.{Table}
use Rattle.bs_series.specs.Series.{Series, exact, identity, average, method, compose, inverse, adjoint, substitute, modified, modifying, scale}
use Rattle.bs_series.specs.Value.{written}
use Rattle.bs_series.specs.Accepted.{Suits}
use Rattle.bs_series.specs.Expressions.{series_at}

abbrev pub HasMethodsBelow : ℕ → Series → Type 0
HasMethodsBelow n (exact k) = Unit {0}
HasMethodsBelow n (identity k) = Unit {0}
HasMethodsBelow n (average k) = Unit {0}
HasMethodsBelow n (method i k) = i < n
HasMethodsBelow n (compose a b) = HasMethodsBelow n a × HasMethodsBelow n b
HasMethodsBelow n (inverse a) = HasMethodsBelow n a
HasMethodsBelow n (adjoint a) = HasMethodsBelow n a
HasMethodsBelow n (substitute b a) = HasMethodsBelow n b × HasMethodsBelow n a
HasMethodsBelow n (modified a) = HasMethodsBelow n a
HasMethodsBelow n (modifying a) = HasMethodsBelow n a
HasMethodsBelow n (scale a c) = HasMethodsBelow n a

abbrev pub SameOverFront : Type 0
SameOverFront = (front more : List Table) (s : Series) → HasMethodsBelow (length front) s → (t : Tree) → written (front ++ more) s t ≡ written front s t

abbrev pub IsSameOverFronts : List Series → Type 0
IsSameOverFronts es = (front more : List Table) → Suits front es → (i : ℕ) → i < length es → (t : Tree) → written (front ++ more) (series_at es i) t ≡ written front (series_at es i) t
