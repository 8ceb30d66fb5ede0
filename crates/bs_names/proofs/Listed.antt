-- The whole list of names and values, after an insert and after a removal: one pair more, or one less, in some order.
use Rattle.std.proofs.Common.{◌≡◌, ℕ, suc, ◌+◌, ◌<◌, List, [], ◌∷◌, ◌++◌, length, get_or, take, slice_set, ◌-◌, position, Some, None, Bool, true, false, cond, refl, sym, ◌∙◌, ap, subst, arith, lt-ltb, not, inl, inr}
use Rattle.std.proofs.lemmas.Bool.{cases_Bool}
use Rattle.std.proofs.lemmas.List.{get_or_default}
use Rattle.std.specs.List.{swap_remove, position_or_len}
use Rattle.std.specs.List.Sorted.{IsPermutation}
use Rattle.std.specs.Map.{keys_of, lookup}
use Rattle.std.specs.Option.{option_map_or}
use Rattle.std.proofs.lemmas.List.Sorted.{IsPermutation-sym, IsPermutation-swap_remove}
use Rattle.indexmap.specs.IndexMap.{swap_remove_entry}
use Rattle.bs_names.specs.Names.{named}

module _ {K X : Type 0} (bytes : K → List ℕ) where
  pub named-append : (xs ys : List (K × X)) → named bytes (xs ++ ys) ≡ named bytes xs ++ named bytes ys
  named-append [] ys = refl
  named-append (x ∷ xs) ys = ap (λ l. (bytes x.0, x.1) ∷ l) (named-append xs ys)

  pub length-named : (es : List (K × X)) → length (named bytes es) ≡ length es
  length-named [] = refl
  length-named (e ∷ es) = ap suc (length-named es)

-- where a look-up finds its value
record Place {K X : Type 0} (test : K → Bool) (es : List (K × X)) (value : X) : Type 0 where
  within : position_or_len test (keys_of es) < length (keys_of es)
  short : position_or_len test (keys_of es) < length es
  key : K
  passes : test key ≡ true
  is : (other : K × X) → get_or es (position_or_len test (keys_of es)) other ≡ (key, value)

later_place : {K X : Type 0} (test : K → Bool) (e : K × X) (es : List (K × X)) (value : X) → test e.0 ≡ false → Place test es value → Place test (e ∷ es) value
later_place test e es value fails p =
    let one : position_or_len test (keys_of (e ∷ es)) ≡ 1 + position_or_len test (keys_of es) = ap (λ b. cond (not b) (1 + position_or_len test (keys_of es)) 0) fails in
    let next : position_or_len test (keys_of (e ∷ es)) ≡ suc (position_or_len test (keys_of es)) = omega arith in
    record {
      within = omega (arith, p.within);
      short = omega (arith, p.short);
      key = p.key;
      passes = p.passes;
      is = λ other. ap (λ i. get_or (e ∷ es) i other) next ∙ p.is other;
    }

first_place : {K X : Type 0} (test : K → Bool) (e : K × X) (es : List (K × X)) → test e.0 ≡ true → Place test (e ∷ es) e.1
first_place test e es here =
    let none : position_or_len test (keys_of (e ∷ es)) ≡ 0 = ap (λ b. cond (not b) (1 + position_or_len test (keys_of es)) 0) here in
    record { within = omega arith; short = omega arith; key = e.0; passes = here; is = λ other. ap (λ i. get_or (e ∷ es) i other) none }

place_at : {K X : Type 0} (test : K → Bool) (es : List (K × X)) (value : X) → lookup test es ≡ Some value → Place test es value
place_at test [] value found = cc
place_at test (e ∷ es) value found =
    elim (cases_Bool (test e.0)) [
      | inl here ↦
          let is : Some e.1 ≡ Some value = sym (ap (λ b. cond b (Some e.1) (lookup test es)) here) ∙ found in
          let same : e.1 ≡ value = cc in
          subst (Place test (e ∷ es)) same (first_place test e es here)
      | inr fails ↦ later_place test e es value fails (place_at test es value (sym (ap (λ b. cond b (Some e.1) (lookup test es)) fails) ∙ found))
    ]

-- an entry taken out, with the last one in its place
swapped : {K X : Type 0} (test : K → Bool) (e : K × X) (es : List (K × X)) (value : X) (place : Place test (e ∷ es) value) → swap_remove_entry test (e ∷ es) ≡ swap_remove (e ∷ es) (position_or_len test (keys_of (e ∷ es))) (place.key, value)
swapped test e es value place =
    let i = position_or_len test (keys_of (e ∷ es)) in
    let found : position test (keys_of (e ∷ es)) ≡ Some i = ap (λ b. cond b (Some i) None) (lt-ltb i (length (keys_of (e ∷ es))) place.within) in
    ap (λ o. option_map_or (λ n. swap_remove (e ∷ es) n e) o (e ∷ es)) found
    ∙ ap (λ x. take (length (e ∷ es) - 1) (slice_set (e ∷ es) i x)) (get_or_default (e ∷ es) (length (e ∷ es) - 1) e (place.key, value) (omega arith))

pub taken_out : {K X : Type 0} (test : K → Bool) (es : List (K × X)) (value : X) → lookup test es ≡ Some value → (key : K) × (test key ≡ true) × IsPermutation ((key, value) ∷ swap_remove_entry test es) es
taken_out test [] value found = cc
taken_out {K} {X} test (e ∷ es) value found =
    let place = place_at test (e ∷ es) value found in
    let moved = IsPermutation-swap_remove (e ∷ es) (position_or_len test (keys_of (e ∷ es))) (place.key, value) place.short (sym (place.is (place.key, value))) in
    (place.key, place.passes, IsPermutation-sym _ _ (subst (λ l. IsPermutation (e ∷ es) ((place.key, value) ∷ l)) (sym (swapped test e es value place)) moved))
