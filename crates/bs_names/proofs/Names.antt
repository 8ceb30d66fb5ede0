-- Names and their values: what a map's entries say once each name is read as its bytes.
use Rattle.std.proofs.Common.{◌≡◌, ◌≢◌, ℕ, List, [], ◌∷◌, ◌++◌, Option, Some, None, IfSome, Bool, true, false, cond, refl, sym, ◌∙◌, ap, inl, inr}
use Rattle.std.specs.Map.{lookup, KeepsOthers, IsKeyTest, AreApart}
use Rattle.std.specs.Str.{bytes_eq}
use Rattle.std.proofs.lemmas.Bool.{cases_Bool, false_from_ne_true}
use Rattle.std.proofs.lemmas.Slice.Eq.{bytes_eq-Decides}
use Rattle.bs_names.specs.Names.{at, named, Sets}

-- a name passes one test alone
apart : (name other k : List ℕ) → other ≢ name → bytes_eq name k ≡ true → bytes_eq other k ≡ false
apart name other k differs here = false_from_ne_true _ (λ there. differs ((bytes_eq-Decides other k).0 there ∙ sym ((bytes_eq-Decides name k).0 here)))

alike : (q a b : List ℕ) → bytes_eq q a ≡ true → bytes_eq q b ≡ bytes_eq a b
alike q a b here = ap (λ l. bytes_eq l b) ((bytes_eq-Decides q a).0 here)

module _ {K X : Type 0} (bytes : K → List ℕ) where
  pub at-named : (name : List ℕ) (es : List (K × X)) → at name (named bytes es) ≡ lookup (λ k. bytes_eq name (bytes k)) es
  at-named name [] = refl
  at-named name (e ∷ es) = ap (cond (bytes_eq name (bytes e.0)) (Some e.1)) (at-named name es)

  kept : (test : K → Bool) (old new : List (K × X)) → KeepsOthers (λ x y. bytes_eq (bytes x) (bytes y)) test old new → (other : K → Bool) → IsKeyTest (λ x y. bytes_eq (bytes x) (bytes y)) other → AreApart test other → lookup other new ≡ lookup other old
  unfolding KeepsOthers
  kept test old new h = h

  -- the map changes at one name alone
  pub Sets-named : (name : List ℕ) (value : Option X) (old new : List (K × X)) → KeepsOthers (λ x y. bytes_eq (bytes x) (bytes y)) (λ k. bytes_eq name (bytes k)) old new → lookup (λ k. bytes_eq name (bytes k)) new ≡ value → Sets (named bytes old) (named bytes new) name value
  Sets-named name value old new others here = record {
    here = at-named name new ∙ here;
    others = λ q differs. at-named q new ∙ kept _ old new others (λ k. bytes_eq q (bytes k)) (λ x y. alike q (bytes x) (bytes y)) (λ k. apart name q (bytes k) differs) ∙ sym (at-named q old);
  }

-- what a look-up finds in the last entry
pub lookup-last : {K X : Type 0} (test : K → Bool) (es : List (K × X)) (e : K × X) → lookup test es ≡ None → test e.0 ≡ true → lookup test (es ++ e ∷ []) ≡ Some e.1
lookup-last test [] e none here = ap (λ b. cond b (Some e.1) None) here
lookup-last test (x ∷ es) e none here =
    elim (cases_Bool (test x.0)) [
      | inl yields ↦ let some : Some x.1 ≡ None = sym (ap (λ b. cond b (Some x.1) (lookup test es)) yields) ∙ none in cc
      | inr fails ↦
          ap (λ b. cond b (Some x.1) (lookup test (es ++ e ∷ []))) fails
          ∙ lookup-last test es e (sym (ap (λ b. cond b (Some x.1) (lookup test es)) fails) ∙ none) here
    ]

-- ---- clauses on what a removal returned
pub IfSome-in : {X : Type 0} (o : Option X) (Q : X → Type 0) → ((x : X) → o ≡ Some x → Q x) → IfSome o Q
IfSome-in None Q q = tt
IfSome-in (Some x) Q q = q x refl
