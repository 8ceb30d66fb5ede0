-- The tableaux that a session sees, by the places of their names in the script.
use Rattle.std.proofs.Common.{◌≡◌, ℕ, zero, suc, ◌<◌, ◌≤◌, true, false, List, [], ◌∷◌, map, length, take, Option, Some, None, cond, option_map, slice_get, arith, refl, ap}
use Rattle.std.specs.List.{zip}
use Rattle.std.specs.Str.{bytes_eq}
use Rattle.bs_script.specs.Places.{place_of}
use Rattle.bs_names.specs.Names.{at}

-- a place behind the first name is one behind a place in the rest
past_first : (o : Option ℕ) → option_map suc o ≡ None → o ≡ None
past_first None is = refl
past_first (Some n) is = cc

place_past : (o : Option ℕ) (place : ℕ) → option_map suc o ≡ Some (suc place) → o ≡ Some place
place_past None place is = cc
place_past (Some n) place is = cc

never_first : (o : Option ℕ) → option_map suc o ≡ Some 0 → ⊥
never_first None is = cc
never_first (Some n) is = cc

module _ {Y : Type 0} (wanted : List ℕ) where
  -- a tableau that stands above is found by its name
  pub seen_found : (names : List (List ℕ)) (tables : List Y) (above place : ℕ) (table : Y) → place_of wanted names ≡ Some place → place < above → slice_get tables place ≡ Some table
      → at wanted (take above (zip names tables)) ≡ Some table
  seen_found [] tables above place table is below here = cc
  seen_found (x ∷ xs) [] above place table is below here = cc
  seen_found (x ∷ xs) (y ∷ ys) zero place table is below here = absurd (omega (arith, below))
  seen_found (x ∷ xs) (y ∷ ys) (suc above) zero table is below here =
      elim (bytes_eq wanted x) as (λ b. cond b (Some 0) (option_map suc (place_of wanted xs)) ≡ Some 0 → cond b (Some y) (at wanted (take above (zip xs ys))) ≡ Some table) [
        | true ↦ λ first. here
        | false ↦ λ first. absurd (never_first (place_of wanted xs) first)
      ] is
  seen_found (x ∷ xs) (y ∷ ys) (suc above) (suc place) table is below here =
      elim (bytes_eq wanted x) as (λ b. cond b (Some 0) (option_map suc (place_of wanted xs)) ≡ Some (suc place) → cond b (Some y) (at wanted (take above (zip xs ys))) ≡ Some table) [
        | true ↦ λ first. cc
        | false ↦ λ later. seen_found xs ys above place table (place_past (place_of wanted xs) place later) (omega (arith, below)) here
      ] is

  -- one that stands below is not seen
  pub seen_below : (names : List (List ℕ)) (tables : List Y) (above place : ℕ) → place_of wanted names ≡ Some place → above ≤ place
      → at wanted (take above (zip names tables)) ≡ None
  seen_below [] tables above place is behind = cc
  seen_below (x ∷ xs) [] zero place is behind = refl
  seen_below (x ∷ xs) [] (suc above) place is behind = refl
  seen_below (x ∷ xs) (y ∷ ys) zero place is behind = refl
  seen_below (x ∷ xs) (y ∷ ys) (suc above) zero is behind = absurd (omega (arith, behind))
  seen_below (x ∷ xs) (y ∷ ys) (suc above) (suc place) is behind =
      elim (bytes_eq wanted x) as (λ b. cond b (Some 0) (option_map suc (place_of wanted xs)) ≡ Some (suc place) → cond b (Some y) (at wanted (take above (zip xs ys))) ≡ None) [
        | true ↦ λ first. cc
        | false ↦ λ later. seen_below xs ys above place (place_past (place_of wanted xs) place later) (omega (arith, behind))
      ] is

  -- nor is one that the script has not
  pub seen_nowhere : (names : List (List ℕ)) (tables : List Y) (above : ℕ) → place_of wanted names ≡ None → at wanted (take above (zip names tables)) ≡ None
  seen_nowhere [] tables zero is = refl
  seen_nowhere [] tables (suc above) is = refl
  seen_nowhere (x ∷ xs) [] zero is = refl
  seen_nowhere (x ∷ xs) [] (suc above) is = refl
  seen_nowhere (x ∷ xs) (y ∷ ys) zero is = refl
  seen_nowhere (x ∷ xs) (y ∷ ys) (suc above) is =
      elim (bytes_eq wanted x) as (λ b. cond b (Some 0) (option_map suc (place_of wanted xs)) ≡ None → cond b (Some y) (at wanted (take above (zip xs ys))) ≡ None) [
        | true ↦ λ first. cc
        | false ↦ λ later. seen_nowhere xs ys above (past_first (place_of wanted xs) later)
      ] is

-- ---- numbers
-- a number of the script's names is one of the seen names, where it is below them all
pub number_seen : {Y : Type 0} (wanted : List ℕ) (names : List (List ℕ)) (tables : List Y) (above place : ℕ) → place_of wanted names ≡ Some place → place < above → place < length tables
    → place_of wanted (map (λ t. t.0) (take above (zip names tables))) ≡ Some place
number_seen wanted [] tables above place is below within = cc
number_seen wanted (x ∷ xs) [] above place is below within = absurd (omega (arith, within))
number_seen wanted (x ∷ xs) (y ∷ ys) zero place is below within = absurd (omega (arith, below))
number_seen wanted (x ∷ xs) (y ∷ ys) (suc above) zero is below within =
    elim (bytes_eq wanted x) as (λ b. cond b (Some 0) (option_map suc (place_of wanted xs)) ≡ Some 0 → cond b (Some 0) (option_map suc (place_of wanted (map (λ t. t.0) (take above (zip xs ys))))) ≡ Some 0) [
      | true ↦ λ first. refl
      | false ↦ λ first. absurd (never_first (place_of wanted xs) first)
    ] is
number_seen wanted (x ∷ xs) (y ∷ ys) (suc above) (suc place) is below within =
    elim (bytes_eq wanted x) as (λ b. cond b (Some 0) (option_map suc (place_of wanted xs)) ≡ Some (suc place) → cond b (Some 0) (option_map suc (place_of wanted (map (λ t. t.0) (take above (zip xs ys))))) ≡ Some (suc place)) [
      | true ↦ λ first. cc
      | false ↦ λ later. ap (option_map suc) (number_seen wanted xs ys above place (place_past (place_of wanted xs) place later) (omega (arith, below)) (omega (arith, within)))
    ] is

-- what is found nowhere has no number
no_number : {Y : Type 0} (wanted : List ℕ) (entries : List (List ℕ × Y)) → at wanted entries ≡ None → place_of wanted (map (λ t. t.0) entries) ≡ None
no_number wanted [] none = refl
no_number wanted (e ∷ es) none =
    elim (bytes_eq wanted e.0) as (λ b. cond b (Some e.1) (at wanted es) ≡ None → cond b (Some 0) (option_map suc (place_of wanted (map (λ t. t.0) es))) ≡ None) [
      | true ↦ λ first. cc
      | false ↦ λ later. ap (option_map suc) (no_number wanted es later)
    ] none

pub number_below : {Y : Type 0} (wanted : List ℕ) (names : List (List ℕ)) (tables : List Y) (above place : ℕ) → place_of wanted names ≡ Some place → above ≤ place → place_of wanted (map (λ t. t.0) (take above (zip names tables))) ≡ None
number_below wanted names tables above place is behind = no_number wanted (take above (zip names tables)) (seen_below wanted names tables above place is behind)

pub number_nowhere : {Y : Type 0} (wanted : List ℕ) (names : List (List ℕ)) (tables : List Y) (above : ℕ) → place_of wanted names ≡ None → place_of wanted (map (λ t. t.0) (take above (zip names tables))) ≡ None
number_nowhere wanted names tables above is = no_number wanted (take above (zip names tables)) (seen_nowhere wanted names tables above is)

-- ---- the tableaux alone
pub tables_alone : {Y : Type 0} (names : List (List ℕ)) (tables : List Y) (above : ℕ) → length names ≡ length tables → take above tables ≡ map (λ t. t.1) (take above (zip names tables))
tables_alone [] [] zero same = refl
tables_alone [] [] (suc above) same = refl
tables_alone [] (y ∷ ys) above same = absurd (omega (arith, same))
tables_alone (x ∷ xs) [] above same = absurd (omega (arith, same))
tables_alone (x ∷ xs) (y ∷ ys) zero same = refl
tables_alone (x ∷ xs) (y ∷ ys) (suc above) same = ap (λ l. y ∷ l) (tables_alone xs ys above (omega (arith, same)))

pub count_seen : {Y : Type 0} (names : List (List ℕ)) (tables : List Y) (above : ℕ) → length names ≡ length tables → above ≤ length tables → length (take above (zip names tables)) ≡ above
count_seen [] [] zero same within = refl
count_seen [] [] (suc above) same within = absurd (omega (arith, within))
count_seen [] (y ∷ ys) above same within = absurd (omega (arith, same))
count_seen (x ∷ xs) [] above same within = absurd (omega (arith, same))
count_seen (x ∷ xs) (y ∷ ys) zero same within = refl
count_seen (x ∷ xs) (y ∷ ys) (suc above) same within = ap suc (count_seen xs ys above (omega (arith, same)) (omega (arith, within)))
