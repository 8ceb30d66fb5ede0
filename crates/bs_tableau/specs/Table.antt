-- A Runge-Kutta method of one or more colours, as a table of fractions.
--
--   Table              == the number of stages s, the number of colours, and rows of s fractions: for each colour
--                         from 0 the s rows of its matrix A[c] and then its weights b[c]
--   matrix_entry t c i j == A[c][i][j]
--   weight_entry t c i == b[c][i]
--   row_count t        == the number of rows of a whole table
--   with_row t r       == the table with one more row
--   IsBegun t          == 1 to MAX_STAGES stages, 1 to MAX_COLOURS colours, at most the whole table's rows, each
--                         of s reduced fractions
--   IsWhole t          == that, with all rows
--
-- An entry past the rows is 0.
--
-- Source: Butcher (2021), Runge-Kutta methods; Hairer, Norsett and Wanner (1993), II.15 for several colours
-- (partitioned and additive methods).
-- The code keeps each row in an array of MAX_STAGES places.
use Rattle.std.specs.Prelude.{◌≡◌, ℕ, ◌+◌, ◌*◌, ◌<◌, ◌≤◌, List, [], ◌∷◌, ◌++◌, length, take, map, slice_index_or}
use Rattle.std.specs.List.{AllByRecursion, range_with_len}
use Rattle.bs_frac.specs.Fraction.{Fraction, IsReduced, whole}
use Rattle.bs_tableau.specs.declared.TheConstants.{MAX_STAGES, MAX_COLOURS}

pub record Table : Type 0 where
  pub stages : ℕ
  pub colours : ℕ
  pub rows : List (List Fraction)

-- the entry in this row and column
abbrev pub entry : List (List Fraction) → ℕ → ℕ → Fraction
entry rows row column = slice_index_or (slice_index_or rows row []) column (whole 0)

-- where the rows of a colour begin
abbrev pub first_row : Table → ℕ → ℕ
first_row t colour = colour * (t.stages + 1)

abbrev pub matrix_entry : Table → ℕ → ℕ → ℕ → Fraction
matrix_entry t colour row column = entry t.rows (first_row t colour + row) column

abbrev pub weight_entry : Table → ℕ → ℕ → Fraction
weight_entry t colour stage = entry t.rows (first_row t colour + t.stages) stage

-- the stages, from 0
abbrev pub all_stages : Table → List ℕ
all_stages t = range_with_len 0 t.stages

abbrev pub row_count : Table → ℕ
row_count t = t.colours * (t.stages + 1)

abbrev pub with_row : Table → List Fraction → Table
with_row t row = record t { rows = t.rows ++ row ∷ [] }

-- s reduced fractions
pub record IsRow (stages : ℕ) (row : List Fraction) : Type 0 where
  pub full : length row ≡ stages
  pub reduced : AllByRecursion IsReduced row

pub record IsBegun (t : Table) : Type 0 where
  pub some_stages : 0 < t.stages
  pub few_stages : t.stages ≤ MAX_STAGES
  pub some_colours : 0 < t.colours
  pub few_colours : t.colours ≤ MAX_COLOURS
  pub room : length t.rows ≤ row_count t
  pub each : AllByRecursion (IsRow t.stages) t.rows

pub record IsWhole (t : Table) : Type 0 where
  pub begun : IsBegun t
  pub full : length t.rows ≡ row_count t

-- the table of rows that are kept with further places behind
abbrev pub shown : ℕ → ℕ → List (List Fraction) → Table
shown stages colours rows = record { stages = stages; colours = colours; rows = map (take stages) rows }
