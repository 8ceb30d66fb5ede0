-- The trees to an order, as a walk over order after order has them left.
use Rattle.std.proofs.Common.{◌≡◌, ℕ, zero, suc, ◌+◌, ◌-◌, ◌<◌, ◌≤◌, List, [], ◌∷◌, ◌++◌, drop, Option, Some, MatchOption, refl, sym, ◌∙◌, ap, arith, add-one, add-zero, append-nil, slice_get}
use Rattle.std.proofs.lemmas.List.{append_assoc}
use Rattle.bs_enum.specs.AllTrees.{all_trees, trees_up_to}
use Rattle.bs_enum.specs.Walk.{Ahead, whole}
use Rattle.bs_order.specs.Behind.{walk_left, orders_behind, left_to}

-- the trees to an order, and those of the orders behind it
pub orders-join : (n m k : ℕ) → trees_up_to n k ++ orders_behind n m k ≡ trees_up_to (n + m) k
orders-join n zero k = rw (append-nil, add-zero) refl
orders-join n (suc m) k =
    sym (append_assoc (trees_up_to n k) (all_trees (suc n) k) (orders_behind (suc n) m k))
    ∙ orders-join (suc n) m k
    ∙ ap (λ i. trees_up_to i k) (let e : suc n + m ≡ n + suc m = omega arith in e)

pub orders-all : (n k : ℕ) → orders_behind 0 (n - 0) k ≡ trees_up_to n k
orders-all n k = ap (λ m. orders_behind 0 m k) (let e : n - 0 ≡ n = omega arith in e) ∙ orders-join 0 n k ∙ ap (λ i. trees_up_to i k) (let e : 0 + n ≡ n = omega arith in e)

-- the first item of a list, and the others
pub first-taken : {A : Type 0} (xs : List A) (first : Option A) → first ≡ slice_get xs 0 → MatchOption first (xs ≡ []) (λ x. xs ≡ x ∷ drop 1 xs)
first-taken [] first e = rw e refl
first-taken (x ∷ xs) first e = rw e refl

-- a walk that is at its end gives way to one over the next order
pub order-begun : (n last k : ℕ) (now : Option Ahead) (fresh : Ahead) → n < last → walk_left now ≡ [] → fresh ≡ whole (n + 1) k → left_to (Some fresh) (n + 1) last k ≡ left_to now n last k
order-begun n last k now fresh less done is =
    let e : last - n ≡ suc (last - (n + 1)) = omega (arith, less) in
    rw (is, done, e, add-one n) refl

pub left-done : (now : Option Ahead) (n last k : ℕ) → walk_left now ≡ [] → last ≤ n → left_to now n last k ≡ []
left-done now n last k done le =
    let e : last - n ≡ 0 = omega (arith, le) in
    rw (done, e) refl
