-- The numbers of passes.
use Rattle.std.specs.Prelude.{slice_get, Some}
use Rattle.std.proofs.Common.{◌≡◌, ◌≢◌, ℕ, zero, suc, ◌+◌, ◌<◌, ◌≤◌, ◌==◌, List, [], ◌∷◌, length, if◌then◌else◌, refl, sym, ap, ◌∙◌, arith, All}
use Rattle.atomic_table.specs.Seated.{TableId}
use Rattle.bs_core.proofs.Basics.{by_test}
use Rattle.bs_store.specs.Seats.{OfPass, new_pass}
use Rattle.bs_store.specs.Closing.{numbered, numbers_of, IsOf, NewPassesAreAll, NumbersDecide}

-- ---- by their numbers alone
count_number : ℕ → List ℕ → ℕ
count_number k [] = 0
count_number k (x ∷ xs) = (if k == x then 1 else 0) + count_number k xs

counted : (k : ℕ) (ps : List OfPass) → numbered k ps ≡ count_number k (numbers_of ps)
unfolding count_number
counted k [] = refl
counted k (p ∷ ps) = ap (λ n. (if k == p.number then 1 else 0) + n) (counted k ps)

pub numbers_decide : NumbersDecide
numbers_decide m ps qs same all k h = counted k qs ∙ ap (count_number k) same ∙ sym (counted k ps) ∙ all k h

-- ---- the passes of a new store, from the number i on
abbrev From : TableId → ℕ → List OfPass → Type 0
From t i ps = (j : ℕ) → j < length ps → slice_get ps j ≡ Some (new_pass t (i + j))

first_of : (t : TableId) (i : ℕ) (p : OfPass) (ps : List OfPass) → From t i (p ∷ ps) → p ≡ new_pass t i
first_of t i p ps h =
    let e : Some p ≡ Some (new_pass t (i + 0)) = h 0 (omega arith) in
    let same : p ≡ new_pass t (i + 0) = cc in same ∙ ap (new_pass t) (let z : i + 0 ≡ i = omega arith in z)

rest_from : (t : TableId) (i : ℕ) (p : OfPass) (ps : List OfPass) → From t i (p ∷ ps) → From t (suc i) ps
rest_from t i p ps h j l = h (suc j) (omega arith) ∙ ap (λ k. Some (new_pass t k)) (let z : i + suc j ≡ suc i + j = omega arith in z)

none_below : (t : TableId) (i k : ℕ) (ps : List OfPass) → From t i ps → k < i → numbered k ps ≡ 0
none_below t i k [] h l = refl
none_below t i k (p ∷ ps) h l =
    let r = none_below t (suc i) k ps (rest_from t i p ps h) (omega arith) in
    let number : p.number ≡ i = ap (λ (q : OfPass). q.number) (first_of t i p ps h) in
    by_test k p.number (λ b. (if b then 1 else 0) + numbered k ps ≡ 0) (λ e. absurd (omega arith)) (λ _. omega arith)

one_each : (t : TableId) (i k : ℕ) (ps : List OfPass) → From t i ps → i ≤ k → k < i + length ps → numbered k ps ≡ 1
one_each t i k [] h l u = absurd (omega arith)
one_each t i k (p ∷ ps) h l u =
    let number : p.number ≡ i = ap (λ (q : OfPass). q.number) (first_of t i p ps h) in
    let rest = rest_from t i p ps h in
    by_test k p.number (λ b. (if b then 1 else 0) + numbered k ps ≡ 1)
    (λ e. let z = none_below t (suc i) k ps rest (omega arith) in omega arith)
    (λ n. let z = one_each t (suc i) k ps rest (let m : k ≢ i = (λ q. n (q ∙ sym number)) in omega arith) (omega arith) in omega arith)

all_of_store : (t : TableId) (i : ℕ) (ps : List OfPass) → From t i ps → All (IsOf t) ps
all_of_store t i [] h k d l = absurd (omega arith)
all_of_store t i (p ∷ ps) h zero d l = ap (λ (q : OfPass). q.store) (first_of t i p ps h)
all_of_store t i (p ∷ ps) h (suc k) d l = all_of_store t (suc i) ps (rest_from t i p ps h) k d (omega arith)

pub new_are_all : NewPassesAreAll
new_are_all t ps new =
    let from : From t 0 ps = (λ j l. new j l ∙ ap (λ k. Some (new_pass t k)) (let z : j ≡ 0 + j = omega arith in z)) in
    (all_of_store t 0 ps from, λ k h. one_each t 0 k ps from (omega arith) (omega arith))
