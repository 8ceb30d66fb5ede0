-- Lists of names and values, read as maps.
--
--   named bytes entries       == a map's entries, each name read as its bytes
--   at name entries           == what a name stands for: the value of its first entry; None where it has none
--   Sets old new name value   == the map changes at one name alone, which then stands for this value, or for nothing
--
-- Source: this project. A name is its bytes. The code finds a name by its hash, in place of going down the list.
use Rattle.std.specs.Prelude.{◌≡◌, ◌≢◌, ℕ, List, [], ◌∷◌, map, Option, Some, None, refl}
use Rattle.std.specs.Map.{lookup}
use Rattle.std.specs.Str.{bytes_eq}

abbrev pub named : {K X : Type 0} → (K → List ℕ) → List (K × X) → List (List ℕ × X)
named bytes entries = map (λ e. (bytes e.0, e.1)) entries

abbrev pub at : {X : Type 0} → List ℕ → List (List ℕ × X) → Option X
at name entries = lookup (bytes_eq name) entries

pub record Sets {X : Type 0} (old new : List (List ℕ × X)) (name : List ℕ) (value : Option X) : Type 0 where
  pub here : at name new ≡ value
  pub others : (other : List ℕ) → other ≢ name → at other new ≡ at other old

first_of_two : at {X = ℕ} (97 ∷ []) ((98 ∷ [], 1) ∷ (97 ∷ [], 2) ∷ (97 ∷ [], 3) ∷ []) ≡ Some 2
first_of_two = refl

nothing : at {X = ℕ} (97 ∷ 98 ∷ []) ((97 ∷ [], 1) ∷ (98 ∷ [], 2) ∷ []) ≡ None
nothing = refl
