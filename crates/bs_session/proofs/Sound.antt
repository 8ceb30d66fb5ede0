-- What holds between two steps, after the names have changed.
use Rattle.std.proofs.Common.{◌≡◌, ◌≢◌, ℕ, suc, ◌+◌, ◌<◌, ◌≤◌, Bool, true, false, List, [], ◌∷◌, Option, Some, None, refl, sym, ◌∙◌, ap, subst, inl, inr, ◌⊎◌, arith, add-one}
use Rattle.std.specs.Str.{bytes_eq}
use Rattle.std.proofs.lemmas.Bool.{cases_Bool}
use Rattle.std.proofs.lemmas.Slice.Eq.{bytes_eq-Decides}
use Rattle.bs_names.specs.Names.{at, Sets}
use Rattle.bs_session.specs.Machine.{AreNumbered, AreApart}
use Rattle.bs_names.specs.declared.live.LiveTree.{LiveTree}

-- what a name stands for after a change: the new value, or what it stood for
pub record IsSet (old new : List (List ℕ × LiveTree)) (name other : List ℕ) (set : Option LiveTree) : Type 0 where
  pub is : other ≡ name
  pub value : at other new ≡ set

pub at_cases : (old new : List (List ℕ × LiveTree)) (name other : List ℕ) (value : Option LiveTree) → Sets old new name value → IsSet old new name other value ⊎ (at other new ≡ at other old)
at_cases old new name other value sets =
    elim (cases_Bool (bytes_eq other name)) [
      | inl same ↦
          let e : other ≡ name = (bytes_eq-Decides other name).0 same in
          inl (record { is = e; value = subst (λ n. at n new ≡ value) (sym e) sets.here })
      | inr apart ↦ inr (sets.others other (λ e. let t = (bytes_eq-Decides other name).1 e in cc))
    ]

some_is : (x y : LiveTree) → Some x ≡ Some y → x ≡ y
some_is x y e = cc

none_is_not : (x : LiveTree) → None ≡ Some x → ⊥
none_is_not x e = cc

pub numbered-named : (old new : List (List ℕ × LiveTree)) (name : List ℕ) (tree : LiveTree) (n : ℕ) → Sets old new name (Some tree) → tree.number ≡ n → AreNumbered old n → AreNumbered new (n + 1)
numbered-named old new name tree n sets is numbered other t found =
    elim (at_cases old new name other (Some tree) sets) [
      | inl set ↦
          let e : tree.number ≡ t.number = ap (λ (x : LiveTree). x.number) (some_is tree t (sym set.value ∙ found)) in
          omega (arith, e, is)
      | inr same ↦ omega (arith, numbered other t (sym same ∙ found))
    ]

pub apart-named : (old new : List (List ℕ × LiveTree)) (name : List ℕ) (tree : LiveTree) (n : ℕ) → Sets old new name (Some tree) → tree.number ≡ n → AreNumbered old n → AreApart old → AreApart new
apart-named old new name tree n sets is numbered apart a b x y at_a at_b same =
    elim (at_cases old new name a (Some tree) sets) [
      | inl set_a ↦
          elim (at_cases old new name b (Some tree) sets) [
            | inl set_b ↦ set_a.is ∙ sym set_b.is
            | inr same_b ↦
                let e : tree.number ≡ x.number = ap (λ (t : LiveTree). t.number) (some_is tree x (sym set_a.value ∙ at_a)) in
                absurd (omega (arith, e, is, same, numbered b y (sym same_b ∙ at_b)))
          ]
      | inr same_a ↦
          elim (at_cases old new name b (Some tree) sets) [
            | inl set_b ↦
                let e : tree.number ≡ y.number = ap (λ (t : LiveTree). t.number) (some_is tree y (sym set_b.value ∙ at_b)) in
                absurd (omega (arith, e, is, same, numbered a x (sym same_a ∙ at_a)))
            | inr same_b ↦ apart a b x y (sym same_a ∙ at_a) (sym same_b ∙ at_b) same
          ]
    ]

pub numbered-dropped : (old new : List (List ℕ × LiveTree)) (name : List ℕ) (n : ℕ) → Sets old new name None → AreNumbered old n → AreNumbered new n
numbered-dropped old new name n sets numbered other t found =
    elim (at_cases old new name other None sets) [
      | inl set ↦ absurd (none_is_not t (sym set.value ∙ found))
      | inr same ↦ numbered other t (sym same ∙ found)
    ]

pub apart-dropped : (old new : List (List ℕ × LiveTree)) (name : List ℕ) → Sets old new name None → AreApart old → AreApart new
apart-dropped old new name sets apart a b x y at_a at_b same =
    elim (at_cases old new name a None sets) [
      | inl set_a ↦ absurd (none_is_not x (sym set_a.value ∙ at_a))
      | inr same_a ↦
          elim (at_cases old new name b None sets) [
            | inl set_b ↦ absurd (none_is_not y (sym set_b.value ∙ at_b))
            | inr same_b ↦ apart a b x y (sym same_a ∙ at_a) (sym same_b ∙ at_b) same
          ]
    ]
