-- What a session has named: trees, and series of its book.
--
--   Space           == the live trees by their names, the series by theirs, and the expressions of the book
--   known_of space  == what the names stand for
--   Finds space name id == what a name stands for among the series: an id of the book, or nothing
--   meant bytes es entries == each name, read as its bytes, with the expression at its id
--   AreIn n entries == each id is below n
--   IsLive space tree == some name stands for the tree
--   IsBookOf ts old new == nothing but the book may have changed: it suits the tableaux as before, and no id has changed
--   space_code      == a space as ghost data, by which a proof tells two apart
--
-- Source: this project.
use Rattle.std.specs.Prelude.{◌≡◌, ℕ, ◌<◌, List, length, map, Option, Some, None, option_map, refl}
use Rattle.std.specs.Coded.{Coded, code_by, coded×, coded_list, coded_ℕ}
use Rattle.std.specs.List.{AllByRecursion}
use Rattle.bs_tableau.specs.Table.{Table}
use Rattle.bs_series.specs.Series.{Series}
use Rattle.bs_series.specs.Accepted.{Suits}
use Rattle.bs_series.specs.SeriesData.{coded_series}
use Rattle.bs_series.specs.Expressions.{series_at, Extends}
use Rattle.bs_names.specs.Names.{at}
use Rattle.bs_names.specs.Known.{Known}
use Rattle.bs_names.specs.declared.live.LiveTree.{LiveTree}

pub record Space : Type 0 where
  pub live : List (List ℕ × LiveTree)
  pub series : List (List ℕ × Series)
  pub book : List Series

abbrev pub known_of : Space → Known
known_of space = record { trees = λ name. option_map (λ tree. tree.code) (at name space.live); series = λ name. at name space.series }

abbrev pub Finds : Space → List ℕ → Option ℕ → Type 0
Finds space name None = at name space.series ≡ None
Finds space name (Some id) = (id < length space.book) × (at name space.series ≡ Some (series_at space.book id))

abbrev pub meant : {K : Type 0} → (K → List ℕ) → List Series → List (K × ℕ) → List (List ℕ × Series)
meant bytes es entries = map (λ e. (bytes e.0, series_at es e.1)) entries

abbrev pub AreIn : {K : Type 0} → ℕ → List (K × ℕ) → Type 0
AreIn n entries = AllByRecursion (λ e. e.1 < n) entries

abbrev pub IsLive : Space → LiveTree → Type 0
IsLive space tree = (name : List ℕ) × (at name space.live ≡ Some tree)

pub record IsBookOf (tables : List Table) (old new : Space) : Type 0 where
  pub live : new.live ≡ old.live
  pub series : new.series ≡ old.series
  pub ids_stay : Extends old.book new.book
  pub suits : Suits tables new.book

-- ---- as ghost data
abbrev live_code : Coded LiveTree
live_code =
    code_by (ℕ × List (ℕ × ℕ)) (coded× coded_ℕ (coded_list (coded× coded_ℕ coded_ℕ))) (λ t. (t.number, t.code)) (λ p. record { number = p.0; code = p.1 }) (λ _. refl)

abbrev pub space_code : Coded Space
space_code =
    code_by (List (List ℕ × LiveTree) × (List (List ℕ × Series) × List Series))
    (coded× (coded_list (coded× (coded_list coded_ℕ) live_code)) (coded× (coded_list (coded× (coded_list coded_ℕ) coded_series)) (coded_list coded_series)))
    (λ space. (space.live, (space.series, space.book)))
    (λ p. record { live = p.0; series = p.1.0; book = p.1.1 })
    (λ _. refl)
