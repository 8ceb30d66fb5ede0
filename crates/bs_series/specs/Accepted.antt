-- Which series a book accepts, and why it refuses the others.
--
--   ColoursFit s         == composed series have the same number of colours; an outer series and the series of a modifying
--                           integrator have one
--   EmptyFits s          == the empty value is 1 of what is composed first, inverted, solved or whose adjoint is taken, and 0 of
--                           an inner series
--   IsSolvable tables s  == the series of a modifying integrator is not written as 0 at the leaf
--   IsShallow s          == written out, the expression has depth at most MAX_DEPTH and at most MAX_SIZE nodes
--   IsAccepted tables s  == all four hold
--   Refuses tables s f   == f is the first of them that does not hold; memory may run out where all do
--   IsWantOfMemory f     == the fault is that memory ran out
--   HasTable tables s    == of a method: its tableau stands in the list and has its number of colours
--   IsSuitable tables s, Suits tables es == that, ColoursFit and IsSolvable, of a series and of each of a list
--
-- Only the outermost operation of the expression is looked at: its operands were accepted before.
--
-- Source: Chartier, Hairer and Vilmart (2010), where composition and substitution are defined; the limits are this project's.
use Rattle.std.specs.Prelude.{◌≡◌, ◌<◌, ◌≤◌, List, length}
use Rattle.std.specs.List.{AllByRecursion}
use Rattle.bs_frac.specs.Fraction.{whole}
use Rattle.bs_frac.specs.Written.{IsZero}
use Rattle.bs_part.specs.Partition.{leaf}
use Rattle.bs_tableau.specs.Table.{Table}
use Rattle.bs_series.specs.Series.{Series, exact, identity, average, method, compose, inverse, adjoint, substitute, modified, modifying, scale, empty_value, colours_of, depth, size}
use Rattle.bs_series.specs.Value.{written, table_at}
use Rattle.bs_series.specs.declared.TheConstants.{MAX_DEPTH, MAX_SIZE}
use Rattle.bs_series.specs.declared.kind.SeriesFault.{SeriesFault}
use Rattle.bs_series.specs.declared.kind.SeriesFault.TheVariants.{ColoursDiffer, EmptyValue, NotSolvable, TooDeep, Memory}

abbrev pub ColoursFit : Series → Type 0
ColoursFit (exact k) = Unit {0}
ColoursFit (identity k) = Unit {0}
ColoursFit (average k) = Unit {0}
ColoursFit (method n k) = Unit {0}
ColoursFit (compose a b) = colours_of a ≡ colours_of b
ColoursFit (inverse a) = Unit {0}
ColoursFit (adjoint a) = Unit {0}
ColoursFit (substitute b a) = colours_of a ≡ 1
ColoursFit (modified a) = Unit {0}
ColoursFit (modifying a) = colours_of a ≡ 1
ColoursFit (scale a c) = Unit {0}

abbrev pub EmptyFits : Series → Type 0
EmptyFits (exact k) = Unit {0}
EmptyFits (identity k) = Unit {0}
EmptyFits (average k) = Unit {0}
EmptyFits (method n k) = Unit {0}
EmptyFits (compose a b) = empty_value a ≡ whole 1
EmptyFits (inverse a) = empty_value a ≡ whole 1
EmptyFits (adjoint a) = empty_value a ≡ whole 1
EmptyFits (substitute b a) = empty_value b ≡ whole 0
EmptyFits (modified a) = empty_value a ≡ whole 1
EmptyFits (modifying a) = empty_value a ≡ whole 1
EmptyFits (scale a c) = Unit {0}

abbrev pub IsSolvable : List Table → Series → Type 0
IsSolvable tables (exact k) = Unit {0}
IsSolvable tables (identity k) = Unit {0}
IsSolvable tables (average k) = Unit {0}
IsSolvable tables (method n k) = Unit {0}
IsSolvable tables (compose a b) = Unit {0}
IsSolvable tables (inverse a) = Unit {0}
IsSolvable tables (adjoint a) = Unit {0}
IsSolvable tables (substitute b a) = Unit {0}
IsSolvable tables (modified a) = Unit {0}
IsSolvable tables (modifying a) = ¬ IsZero (written tables a leaf)
IsSolvable tables (scale a c) = Unit {0}

abbrev pub IsShallow : Series → Type 0
IsShallow s = (depth s ≤ MAX_DEPTH) × (size s ≤ MAX_SIZE)

pub record IsAccepted (tables : List Table) (s : Series) : Type 0 where
  pub colours : ColoursFit s
  pub empty : EmptyFits s
  pub solvable : IsSolvable tables s
  pub shallow : IsShallow s

abbrev pub Refuses : List Table → Series → SeriesFault → Type 0
Refuses tables s ColoursDiffer = ¬ ColoursFit s
Refuses tables s EmptyValue = ColoursFit s × ¬ EmptyFits s
Refuses tables s NotSolvable = ColoursFit s × EmptyFits s × ¬ IsSolvable tables s
Refuses tables s TooDeep = ColoursFit s × EmptyFits s × IsSolvable tables s × ¬ IsShallow s
Refuses tables s (Memory cause) = IsAccepted tables s

abbrev pub IsWantOfMemory : SeriesFault → Type 0
IsWantOfMemory (Memory cause) = Unit {0}
IsWantOfMemory _ = ⊥

-- ---- the tableaux that a book's series stand on
abbrev pub HasTable : List Table → Series → Type 0
HasTable tables (exact k) = Unit {0}
HasTable tables (identity k) = Unit {0}
HasTable tables (average k) = Unit {0}
HasTable tables (method n k) = (n < length tables) × ((table_at tables n).colours ≡ k)
HasTable tables (compose a b) = Unit {0}
HasTable tables (inverse a) = Unit {0}
HasTable tables (adjoint a) = Unit {0}
HasTable tables (substitute b a) = Unit {0}
HasTable tables (modified a) = Unit {0}
HasTable tables (modifying a) = Unit {0}
HasTable tables (scale a c) = Unit {0}

pub record IsSuitable (tables : List Table) (s : Series) : Type 0 where
  pub table : HasTable tables s
  pub colours : ColoursFit s
  pub solvable : IsSolvable tables s

abbrev pub Suits : List Table → List Series → Type 0
Suits tables es = AllByRecursion (IsSuitable tables) es
