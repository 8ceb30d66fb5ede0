-- Sums over lists.
use Rattle.std.proofs.Common.{◌≡◌, ℕ, zero, suc, ◌+◌, ◌<◌, ◌≤◌, List, [], ◌∷◌, ◌++◌, length, set, get_or, ap, sym, subst, arith}
use mathlib.Core.Option.{some, some-injective, some-ne-none}
use lib.ListN.{get_elem?}
use Rattle.bs_pool.specs.Hands.{times, total, Each}

pub times_append : (x : ℕ) (xs ys : List ℕ) → times x (xs ++ ys) ≡ times x xs + times x ys
times_append x [] ys = omega arith
times_append x (y ∷ xs) ys = let r = times_append x xs ys in omega arith

module _ {A : Type 0} where
  pub total_append : (f : A → ℕ) (xs ys : List A) → total f (xs ++ ys) ≡ total f xs + total f ys
  total_append f [] ys = omega arith
  total_append f (x ∷ xs) ys = let r = total_append f xs ys in omega arith

  pub total_set : (f : A → ℕ) (views : List A) (i : ℕ) (v w : A) → get_elem? views i ≡ some v → total f (set views i w) + f v ≡ total f views + f w
  total_set f [] i v w e = absurd (some-ne-none v (sym e))
  total_set f (x ∷ xs) zero v w e = let s : f x ≡ f v = ap f (some-injective x v e) in omega arith
  total_set f (x ∷ xs) (suc i) v w e = let s = total_set f xs i v w e in omega arith

  pub total_at : (f : A → ℕ) (xs : List A) (i : ℕ) (d w : A) → i < length xs → total f (set xs i w) + f (get_or xs i d) ≡ total f xs + f w
  total_at f [] i d w l = absurd (omega arith)
  total_at f (x ∷ xs) zero d w l = omega arith
  total_at f (x ∷ xs) (suc i) d w l = let s = total_at f xs i d w (omega arith) in omega arith

  pub total_one : (f : A → ℕ) (views : List A) (i : ℕ) (v : A) → get_elem? views i ≡ some v → f v ≤ total f views
  total_one f [] i v e = absurd (some-ne-none v (sym e))
  total_one f (x ∷ xs) zero v e = let s : f x ≡ f v = ap f (some-injective x v e) in omega arith
  total_one f (x ∷ xs) (suc i) v e = let s = total_one f xs i v e in omega arith

  pub each_at : (P : A → Type 0) (views : List A) (i : ℕ) (v : A) → Each P views → get_elem? views i ≡ some v → P v
  each_at P [] i v h e = absurd (some-ne-none v (sym e))
  each_at P (x ∷ xs) zero v h e = subst P (some-injective x v e) h.0
  each_at P (x ∷ xs) (suc i) v h e = each_at P xs i v h.1 e

  pub each_set : (P : A → Type 0) (views : List A) (i : ℕ) (w : A) → Each P views → P w → Each P (set views i w)
  each_set P [] i w h p = tt
  each_set P (x ∷ xs) zero w h p = (p, h.1)
  each_set P (x ∷ xs) (suc i) w h p = (h.0, each_set P xs i w h.1 p)

  pub each_append : (P : A → Type 0) (xs ys : List A) → Each P xs → Each P ys → Each P (xs ++ ys)
  each_append P [] ys h k = k
  each_append P (x ∷ xs) ys h k = (h.0, each_append P xs ys h.1 k)
