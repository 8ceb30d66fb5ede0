-- Tests of numbers, names and codes, and lists changed at one place.
use Rattle.std.proofs.Common.{◌≡◌, ◌≢◌, ℕ, zero, suc, ◌==◌, ◌&&◌, ◌%◌, List, [], ◌∷◌, length, Bool, true, false, refl, sym, ap, subst, eq-eqb, ne_eqb}
use Rattle.std.specs.Prelude.{Result, Ok, Err, OnOk, IfOk}
use mathlib.Core.Option.{some, some-ne-none, some-injective}
use mathlib.Core.Logic.{dite}
use native.Mathlib.Decide.{ℕ_discrete}
use lib.ListN.{get_elem?}
use Rattle.bs_tree.specs.Code.{same_code, child_codes}
use Rattle.bs_tree.specs.SortingLaws.{by_cases}
use Rattle.bs_tree.specs.CodeEquality.{same_code-Decides}
use Rattle.bs_core.specs.Codes.{Code, same, children, stripe_of, hash_from}
use Rattle.bs_core.specs.declared.name.Name.{Name}
use Rattle.bs_core.specs.Machine.{at_place, is_name}

pub by_test : (s k : ℕ) (F : Bool → Type 0) → (s ≡ k → F true) → (s ≢ k → F false) → F (s == k)
by_test s k F hit miss = dite (ℕ_discrete s k) (λ e. subst F (sym (eq-eqb s k e)) (hit e)) (λ ne. subst F (sym (ne_eqb s k ne)) (miss ne))

pub name_test : (a b : Name) (F : Bool → Type 0) → (a ≡ b → F true) → (a ≢ b → F false) → F (is_name a b)
name_test a b F hit miss = by_test a.stripe b.stripe (λ u. F (u && (a.slot == b.slot)))
    (λ e. by_test a.slot b.slot F (λ e'. hit (λ i. record { stripe = e i; slot = e' i })) (λ n. miss (λ q. n (ap (λ (x : Name). x.slot) q))))
    (λ n. miss (λ q. n (ap (λ (x : Name). x.stripe) q)))

pub code_test : (a b : Code) (F : Bool → Type 0) → (a ≡ b → F true) → (a ≢ b → F false) → F (same a b)
unfolding same
code_test a b F hit miss =
    let d = same_code-Decides a b in
    by_cases (same_code a b) (λ e. subst F (sym e) (hit (d.0 e))) (λ e. subst F (sym e) (miss (λ q. let t = d.1 q in absurd (cc))))

module _ {A : Type 0} (F : A → A) where
  pub at_place_here : (i : ℕ) (xs : List A) (x : A) → get_elem? xs i ≡ some x → get_elem? (at_place i F xs) i ≡ some (F x)
  at_place_here i [] x e = absurd (some-ne-none x (sym e))
  at_place_here zero (y ∷ ys) x e = ap (λ (z : A). some (F z)) (some-injective y x e)
  at_place_here (suc i) (y ∷ ys) x e = at_place_here i ys x e

  pub at_place_else : (i j : ℕ) (xs : List A) → j ≢ i → get_elem? (at_place i F xs) j ≡ get_elem? xs j
  at_place_else i j [] n = refl
  at_place_else zero zero (y ∷ ys) n = absurd (n refl)
  at_place_else zero (suc j) (y ∷ ys) n = refl
  at_place_else (suc i) zero (y ∷ ys) n = refl
  at_place_else (suc i) (suc j) (y ∷ ys) n = at_place_else i j ys (λ e. n (ap suc e))

  pub length_at_place : (i : ℕ) (xs : List A) → length (at_place i F xs) ≡ length xs
  length_at_place i [] = refl
  length_at_place zero (y ∷ ys) = refl
  length_at_place (suc i) (y ∷ ys) = ap suc (length_at_place i ys)

-- the words that do not unfold
pub stripe_is : (n : ℕ) (c : Code) → hash_from 0 c % n ≡ stripe_of n c
unfolding stripe_of
stripe_is n c = refl

pub children_is : (c : Code) → children c ≡ child_codes c
unfolding children
children_is c = refl

pub on_ok : {T E : Type 0} (r : Result T E) {P Q : Type 0} → (P → Q) → OnOk r P → OnOk r Q
on_ok (Ok x) f h = f h
on_ok (Err e) f h = h

pub if_ok : {T E : Type 0} (r : Result T E) (P Q : T → Type 0) → ((x : T) → P x → Q x) → IfOk r P → IfOk r Q
if_ok (Ok x) P Q f h = f x h
if_ok (Err e) P Q f h = h
