-- What the names of a session stand for.
--
--   Known                  == for each name the code of the live tree that it names, or nothing; and the series that it names, or nothing
--   none_known             == no name stands for anything
--   with_tree k name code  == the same, but that the name stands for the tree of this code
--   without_tree k name    == the same, but that the name is free
--   with_series k name s   == the same, but that the name stands for the series s
--   is_taken k name        == the name stands for a tree or for a series
--   Tables                 == the tableaux that a session sees, with their names
--   plain ts               == the tableaux alone
--   tables_seen script above == the first tableaux of a script, with their names
--   number_of name ts      == the number of the tableau of this name, counted from 0; None where there is none
--
-- Source: this project.
-- The code keeps maps from names to places, the trees at their places, and each distinct series once.
use Rattle.std.specs.Prelude.{ℕ, Bool, ◌||◌, List, map, take, Option, Some, None, is_some, if◌then◌else◌}
use Rattle.std.specs.List.{zip}
use Rattle.std.specs.Str.{bytes_eq}
use Rattle.bs_tableau.specs.Table.{Table}
use Rattle.bs_series.specs.Series.{Series}
use Rattle.bs_script.specs.Blocks.{ScriptLines}
use Rattle.bs_script.specs.Places.{place_of}

pub record Known : Type 0 where
  pub trees : List ℕ → Option (List (ℕ × ℕ))
  pub series : List ℕ → Option Series

abbrev pub none_known : Known
none_known = record { trees = λ name. None; series = λ name. None }

abbrev pub with_tree : Known → List ℕ → List (ℕ × ℕ) → Known
with_tree known name code = record known { trees = λ other. if bytes_eq other name then Some code else known.trees other }

abbrev pub without_tree : Known → List ℕ → Known
without_tree known name = record known { trees = λ other. if bytes_eq other name then None else known.trees other }

abbrev pub with_series : Known → List ℕ → Series → Known
with_series known name s = record known { series = λ other. if bytes_eq other name then Some s else known.series other }

abbrev pub is_taken : Known → List ℕ → Bool
is_taken known name = is_some (known.trees name) || is_some (known.series name)

abbrev pub Tables : Type 0
Tables = List (List ℕ × Table)

abbrev pub plain : Tables → List Table
plain tables = map (λ t. t.1) tables

abbrev pub number_of : List ℕ → Tables → Option ℕ
number_of name tables = place_of name (map (λ t. t.0) tables)

abbrev pub tables_seen : ScriptLines → ℕ → Tables
tables_seen script above = take above (zip script.table_names script.tables)
