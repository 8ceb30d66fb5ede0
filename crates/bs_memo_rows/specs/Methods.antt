-- Keys of the first method of a list of tableaux.
--
--   IsOfMethod bytes == they tell the series of the first method, of some number of colours
--
-- Source: this project's own.
use Rattle.std.specs.Prelude.{◌≡◌, ℕ, List}
use Rattle.bs_series.specs.Series.{method}
use Rattle.bs_series.specs.Keys.{key_of}

pub record IsOfMethod (bytes : List ℕ) : Type 0 where
  pub colours : ℕ
  pub is : bytes ≡ key_of (method 0 colours)
