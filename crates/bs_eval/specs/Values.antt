-- Remembered values.
--
--   value_of tables es cs w  == the written value of a pair of an id and a number
--   IsValue tables es cs id n v == the id is one of the book, n a number of the catalog, and v the written value there
--   forest_values tables es cs id n == the written values of a series at the trees of a forest, by the forest's number
--   IsForestProduct tables es cs id n x == x is the product of these
--   recalled values id n     == what is remembered there
--   ColumnAdds c c'          == the values of c' stand in c
--   ColumnTakes c c' n v     == the values of c' stand in c, but for v at place n
--   ColumnsAdd cs cs'        == the values of the columns cs' stand in the columns cs
--   AreValues tables es cs values == what is remembered are written values, products of these, and values of the exact flow
--   IsLookedUp es cs w       == the id is one of the book, and the values of its series are looked up; the tree has its colours
--   IsMemory tables es m     == the values of a memory are right
--
-- Source: this project.
use Rattle.std.specs.Prelude.{◌≡◌, ℕ, ◌<◌, ◌⊎◌, List, [], map, length, Option, Some, None, slice_get}
use Rattle.bs_frac.specs.declared.coef.Coef.{Coef}
use Rattle.bs_frac.specs.declared.coef.Coef.TheVariants.{Value}
use Rattle.bs_frac.specs.Gathered.{Multiplied, IsProductOf}
use Rattle.bs_tree.specs.Code.{tree_of, child_codes}
use Rattle.bs_tableau.specs.Table.{Table}
use Rattle.bs_series.specs.Series.{Series, colours_of}
use Rattle.bs_series.specs.Value.{exact_value}
use Rattle.bs_series.specs.SeriesCode.{Code, IsColouredCode, written_at}
use Rattle.bs_series.specs.Expressions.{series_at}
use Rattle.bs_eval.specs.Pairs.{IsLooked}
use Rattle.bs_eval.specs.Terms.{code_at}
use Rattle.bs_eval.specs.Forests.{product_at}
use Rattle.bs_eval.specs.declared.factor.Wanted.{Wanted}
use Rattle.bs_eval.specs.declared.values.Column.{Column}
use Rattle.bs_eval.specs.declared.values.Values.{Values}
use Rattle.bs_eval.specs.declared.memory.Memory.{Memory}

abbrev pub value_of : List Table → List Series → List Code → Wanted → Coef
value_of tables es cs w = written_at tables (series_at es w.series) (code_at cs w.tree)

pub record IsValue (tables : List Table) (es : List Series) (cs : List Code) (id n : ℕ) (v : Coef) : Type 0 where
  pub series : id < length es
  pub tree : n < length cs
  pub value : v ≡ written_at tables (series_at es id) (code_at cs n)

abbrev pub forest_values : List Table → List Series → List Code → ℕ → ℕ → List Coef
forest_values tables es cs id n = map (written_at tables (series_at es id)) (child_codes (code_at cs n))

abbrev pub flattened : {X : Type 0} → Option (Option X) → Option X
flattened None = None
flattened (Some o) = o

abbrev pub in_column : Option Column → ℕ → Option Coef
in_column None n = None
in_column (Some c) n = flattened (slice_get c.values.items n)

abbrev pub recalled : Values → ℕ → ℕ → Option Coef
recalled values id n = in_column (slice_get values.columns.items id) n

pub record ColumnAdds (c c' : Column) : Type 0 where
  pub stands : (n : ℕ) (v : Coef) → in_column (Some c') n ≡ Some v → in_column (Some c) n ≡ Some v

pub record ColumnTakes (c c' : Column) (place : ℕ) (value : Coef) : Type 0 where
  pub stands : (n : ℕ) (v : Coef) → in_column (Some c') n ≡ Some v → (in_column (Some c) n ≡ Some v) ⊎ ((n ≡ place) × (v ≡ value))

pub record ColumnsAdd (cs cs' : List Column) : Type 0 where
  pub stands : (id n : ℕ) (v : Coef) → in_column (slice_get cs' id) n ≡ Some v → in_column (slice_get cs id) n ≡ Some v

pub record IsForestProduct (tables : List Table) (es : List Series) (cs : List Code) (id n : ℕ) (x : Multiplied) : Type 0 where
  pub series : id < length es
  pub forest : n < length cs
  pub product : IsProductOf x (forest_values tables es cs id n)

pub record AreValues (tables : List Table) (es : List Series) (cs : List Code) (values : Values) : Type 0 where
  pub series : (id n : ℕ) (v : Coef) → recalled values id n ≡ Some v → IsValue tables es cs id n v
  pub forests : (id n : ℕ) (x : Multiplied) → product_at values.forests id n ≡ Some x → IsForestProduct tables es cs id n x
  pub flows : (n : ℕ) (v : Coef) → in_column (Some values.flows) n ≡ Some v → (n < length cs) × (v ≡ Value (exact_value (tree_of (code_at cs n))))

pub record IsLookedUp (es : List Series) (cs : List Code) (w : Wanted) : Type 0 where
  pub in_book : w.series < length es
  pub in_trees : w.tree < length cs
  pub looked : IsLooked (series_at es w.series)
  pub coloured : IsColouredCode (colours_of (series_at es w.series)) (code_at cs w.tree)

pub record IsMemory (tables : List Table) (es : List Series) (m : Memory) : Type 0 where
  pub values : AreValues tables es m.trees.codes m.values
