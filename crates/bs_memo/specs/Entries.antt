-- What a stripe of remembered values keeps, and what its pass has in common with it.
--
--   IsValueOf tables bytes c v == v is the written value, over these tableaux at the tree of the code c, of the series that the bytes tell
--   KeysTellSeries       == a written value of a series with reduced and bounded factors is the value of its key
--   Remembered           == an entry with the code of its tree
--   entries_of rs        == the entries as the table has them: a key and a value each
--   pairs_of rs          == their names with their codes
--   Fits tables held es  == a pass that holds one pair for each entry, with the entry's name, and nothing else; and each value is
--                           that of the entry's series at the tree that the pass holds
--
-- Source: this project's own.
-- The table itself has no codes: a name that is held keeps its tree.
use Rattle.std.specs.Prelude.{◌≡◌, ℕ, List, [], ◌∷◌}
use Rattle.bs_frac.specs.declared.coef.Coef.{Coef}
use Rattle.bs_tableau.specs.Table.{Table}
use Rattle.bs_series.specs.Series.{Series}
use Rattle.bs_series.specs.SeriesCode.{written_at}
use Rattle.bs_series.specs.Keys.{key_of, IsKeyed}
use Rattle.bs_core.specs.Codes.{Code}
use Rattle.bs_core.specs.Machine.{pair}
use Rattle.bs_core.specs.Canonical.{Each}
use Rattle.bs_core.specs.declared.table.Held.{Held}
use Rattle.bs_store.specs.Walks.{Same}
use Rattle.bs_memo.specs.Keys.{OfKey}

abbrev pub IsValueOf : List Table → List ℕ → Code → Coef → Type 0
IsValueOf tables bytes c v = (s : Series) → IsKeyed s → key_of s ≡ bytes → v ≡ written_at tables s c

abbrev pub KeysTellSeries : Type 0
KeysTellSeries = (tables : List Table) (s : Series) (c : Code) → IsKeyed s → IsValueOf tables (key_of s) c (written_at tables s c)

pub record Remembered : Type 0 where
  pub key : OfKey
  pub value : Coef
  pub code : Code

abbrev pub entries_of : List Remembered → List (OfKey × Coef)
entries_of [] = []
entries_of (r ∷ rs) = (r.key, r.value) ∷ entries_of rs

abbrev pub pair_of : Remembered → Held
pair_of r = pair r.key.name r.code

abbrev pub pairs_of : List Remembered → List Held
pairs_of [] = []
pairs_of (r ∷ rs) = pair_of r ∷ pairs_of rs

abbrev pub IsRight : List Table → Remembered → Type 0
IsRight tables r = IsValueOf tables r.key.series r.code r.value

pub record Fits (tables : List Table) (held : List Held) (es : List (OfKey × Coef)) : Type 0 where
  pub all : List Remembered
  pub entries : entries_of all ≡ es
  pub pairs : Same (pairs_of all) held
  pub right : Each (IsRight tables) all
