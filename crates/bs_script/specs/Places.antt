-- Where a name stands in a list of names.
--
--   place_of name names        == the first place at which the name stands, from 0; None where it stands nowhere
--   key_of bytes name entries  == the number beside the first entry of this name, whose keys are read as their bytes
--   IsIndex bytes entries names == the entries give for each name the place at which it stands
--
-- Source: this project. A name is its bytes. The code finds a name in a search tree, in place of going down the list.
use Rattle.std.specs.Prelude.{ℕ, suc, ◌≡◌, List, [], ◌∷◌, Option, Some, None, option_map, if◌then◌else◌, refl}
use Rattle.std.specs.Cmp.Lexicographic.{slice_cmp}
use Rattle.std.specs.Map.{lookup}
use Rattle.std.specs.Ordering.{is_eq, nat_cmp}
use Rattle.std.specs.Str.{bytes_eq}

abbrev pub place_of : List ℕ → List (List ℕ) → Option ℕ
place_of name [] = None
place_of name (first ∷ names) = if bytes_eq name first then Some 0 else option_map suc (place_of name names)

abbrev pub key_of : {K : Type 0} → (K → List ℕ) → List ℕ → List (K × ℕ) → Option ℕ
key_of bytes name entries = lookup (λ k. is_eq (slice_cmp nat_cmp name (bytes k))) entries

abbrev pub IsIndex : {K : Type 0} → (K → List ℕ) → List (K × ℕ) → List (List ℕ) → Type 0
IsIndex bytes entries names = (name : List ℕ) → key_of bytes name entries ≡ place_of name names

-- the names a, b and a
first_of_two : place_of (97 ∷ []) ((97 ∷ []) ∷ (98 ∷ []) ∷ (97 ∷ []) ∷ []) ≡ Some 0
first_of_two = refl

second : place_of (98 ∷ []) ((97 ∷ []) ∷ (98 ∷ []) ∷ (97 ∷ []) ∷ []) ≡ Some 1
second = refl

nowhere : place_of (97 ∷ 98 ∷ []) ((97 ∷ []) ∷ (98 ∷ []) ∷ (97 ∷ []) ∷ []) ≡ None
nowhere = refl
