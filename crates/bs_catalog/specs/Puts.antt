-- Rows that are put behind others, as private functions speak of them.
--
--   least_kept way, least_row way == how many numbers the two rows have at least of which a row is made so
--   AreLong way kept row == so many they have
--   Puts way cs cs' kept row out out'      == behind out stands the row that is made of kept and row
--   PutsUnder way cs cs' kept rest out out' == behind out stand the rows that are made of kept and each row of rest
--   PutsAll way cs cs' kids rest out out'  == behind out stand those of each row of kids
--
-- All of them by the codes of their numbers: kept, row, rest, kids and out by cs, out' by cs'.
--
-- Source: this project.
use Rattle.std.specs.Prelude.{ℕ, ◌≤◌, List, [], ◌∷◌, ◌++◌, map, length}
use Rattle.bs_catalog.specs.Shelf.{Code, AreNumbers, AreRows}
use Rattle.bs_catalog.specs.declared.way.Way.{Way}
use Rattle.bs_catalog.specs.declared.way.Way.TheVariants.{CutOff, Keep, Join, Sever}
use Rattle.bs_catalog.specs.Making.{made, all_made}

abbrev pub least_kept : Way → ℕ
least_kept CutOff = 0
least_kept Keep = 1
least_kept Join = 2
least_kept Sever = 1

abbrev pub least_row : Way → ℕ
least_row CutOff = 1
least_row Keep = 1
least_row Join = 2
least_row Sever = 2

abbrev pub AreLong : Way → List ℕ → List ℕ → Type 0
AreLong way kept row = (least_kept way ≤ length kept) × (least_row way ≤ length row)

abbrev pub Puts : Way → List Code → List Code → List ℕ → List ℕ → List (List ℕ) → List (List ℕ) → Type 0
Puts way cs cs' kept row out out' =
    (k r : List Code) (done : List (List Code)) → AreNumbers cs kept k → AreNumbers cs row r → AreRows cs out done → AreRows cs' out' (done ++ made way k r ∷ [])

abbrev pub PutsUnder : Way → List Code → List Code → List ℕ → List (List ℕ) → List (List ℕ) → List (List ℕ) → Type 0
PutsUnder way cs cs' kept rest out out' =
    (k : List Code) (rs done : List (List Code)) → AreNumbers cs kept k → AreRows cs rest rs → AreRows cs out done → AreRows cs' out' (done ++ map (made way k) rs)

abbrev pub PutsAll : Way → List Code → List Code → List (List ℕ) → List (List ℕ) → List (List ℕ) → List (List ℕ) → Type 0
PutsAll way cs cs' kids rest out out' =
    (ks rs done : List (List Code)) → AreRows cs kids ks → AreRows cs rest rs → AreRows cs out done → AreRows cs' out' (done ++ all_made way ks rs)
