-- Names and their places: what one more name leaves at each name.
use Rattle.std.proofs.Common.{◌≡◌, ℕ, suc, List, [], ◌∷◌, ◌++◌, length, Option, Some, None, Bool, true, false, ◌||◌, cond, is_some, option_map, refl, sym, ◌∙◌, ap, subst, inl, inr}
use Rattle.std.specs.BTreeMap as tree
use Rattle.std.specs.BTreeMap.{BTreeMap}
use Rattle.std.specs.Cmp.{eq_by_cmp_equiv}
use Rattle.std.specs.Cmp.Lexicographic.{slice_cmp, nat_list_cmp_total}
use Rattle.std.specs.List.{list_any}
use Rattle.std.specs.Map.{lookup, IsKeyTest, AreApart, KeepsOthers}
use Rattle.std.specs.Ordering.{is_eq, nat_cmp}
use Rattle.std.specs.Str.{bytes_eq}
use Rattle.std.proofs.lemmas.Bool.{cases_Bool, cond-true, cond-false, false_from_ne_true}
use Rattle.std.proofs.lemmas.Map.Text.{is_eq-slice_cmp}
use Rattle.std.proofs.lemmas.Slice.Eq.{bytes_eq-Decides}
use Rattle.bs_script.specs.Places.{place_of, key_of, IsIndex}

-- ---- the list of names
is_some-suc : (o : Option ℕ) → is_some (option_map suc o) ≡ is_some o
is_some-suc None = refl
is_some-suc (Some n) = refl

-- a name that stands somewhere is among the names
pub place_of-among : (name : List ℕ) (names : List (List ℕ)) → is_some (place_of name names) ≡ list_any (bytes_eq name) names
place_of-among name [] = refl
place_of-among name (first ∷ names) =
    elim (bytes_eq name first) as (λ b. is_some (cond b (Some 0) (option_map suc (place_of name names))) ≡ (b || list_any (bytes_eq name) names)) [
      | true ↦ refl
      | false ↦ is_some-suc (place_of name names) ∙ place_of-among name names
    ]

-- the last of the names stands behind all others
pub place_of-last : (name : List ℕ) (names : List (List ℕ)) → list_any (bytes_eq name) names ≡ false → place_of name (names ++ name ∷ []) ≡ Some (length names)
place_of-last name [] new = cond-true _ (Some 0) None ((bytes_eq-Decides name name).1 refl)
place_of-last name (first ∷ names) new =
    elim (bytes_eq name first) as (λ b. (b || list_any (bytes_eq name) names) ≡ false → cond b (Some 0) (option_map suc (place_of name (names ++ name ∷ []))) ≡ Some (suc (length names))) [
      | true ↦ λ is. cc
      | false ↦ λ is. ap (option_map suc) (place_of-last name names is)
    ] new

-- each other name stands where it stood
pub place_of-others : (q name : List ℕ) (names : List (List ℕ)) → bytes_eq q name ≡ false → place_of q (names ++ name ∷ []) ≡ place_of q names
place_of-others q name [] apart = cond-false _ (Some 0) None apart
place_of-others q name (first ∷ names) apart =
    ap (λ o. cond (bytes_eq q first) (Some 0) (option_map suc o)) (place_of-others q name names apart)

-- ---- the search tree
other_entries : {K X : Type 0} (eq : K → K → Bool) (test : K → Bool) (old new : List (K × X)) → KeepsOthers eq test old new → (other : K → Bool) → IsKeyTest eq other → AreApart test other → lookup other new ≡ lookup other old
unfolding KeepsOthers
other_entries eq test old new h = h

apart_back : (a b : List ℕ) → bytes_eq a b ≡ false → bytes_eq b a ≡ false
apart_back a b apart = false_from_ne_true _ (λ back. let again = (bytes_eq-Decides a b).1 (sym ((bytes_eq-Decides b a).0 back)) in cc)

apart_in_order : (name q k : List ℕ) → bytes_eq name q ≡ false → is_eq (slice_cmp nat_cmp name k) ≡ true → is_eq (slice_cmp nat_cmp q k) ≡ false
apart_in_order name q k apart here =
    let same : name ≡ k = (bytes_eq-Decides name k).0 (sym (is_eq-slice_cmp name k) ∙ here) in
    is_eq-slice_cmp q k ∙ subst (λ l. bytes_eq q l ≡ false) same (apart_back name q apart)

-- an index of some names, with one more name at the place behind them, is an index of the names with that one
pub IsIndex-more : {K : Type 0} (bytes : K → List ℕ) (old new : BTreeMap K ℕ) (names : List (List ℕ)) (name : List ℕ) → IsIndex bytes old.entries names
    → list_any (bytes_eq name) names ≡ false
    → tree.UpdatesBy (λ x y. slice_cmp nat_cmp (bytes x) (bytes y)) (λ k. slice_cmp nat_cmp name (bytes k)) old new (Some (length names))
    → IsIndex bytes new.entries (names ++ name ∷ [])
IsIndex-more bytes old new names name index fresh updates = λ q.
    elim (cases_Bool (bytes_eq name q)) [
      | inl same ↦
          subst (λ l. key_of bytes l new.entries ≡ place_of l (names ++ name ∷ [])) ((bytes_eq-Decides name q).0 same) (updates.1 ∙ sym (place_of-last name names fresh))
      | inr apart ↦
          other_entries _ _ _ _ updates.3 _ (λ x y. (eq_by_cmp_equiv nat_list_cmp_total).congr q (bytes x) (bytes y)) (λ k. apart_in_order name q (bytes k) apart)
          ∙ index q
          ∙ sym (place_of-others q name names (apart_back name q apart))
    ]
