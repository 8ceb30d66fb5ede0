-- Sums over numbered things.
use Rattle.std.proofs.Common.{◌≡◌, ◌≢◌, ℕ, zero, suc, ◌+◌, ◌<◌, ◌≤◌, ◌==◌, List, [], ◌∷◌, length, refl, sym, ap, ◌∙◌, subst, arith, if◌then◌else◌}
use mathlib.Core.Option.{some, some-ne-none, some-injective}
use lib.ListN.{get_elem?}
use Rattle.bs_core.specs.Canonical.{Each}
use Rattle.bs_core.proofs.Basics.{by_test}

-- sums below a number
abbrev pub upto : (ℕ → ℕ) → ℕ → ℕ
upto g zero = 0
upto g (suc n) = g n + upto g n

pub upto_same : (g h : ℕ → ℕ) (n : ℕ) → ((k : ℕ) → k < n → g k ≡ h k) → upto g n ≡ upto h n
upto_same g h zero e = refl
upto_same g h (suc n) e = let r = upto_same g h n (λ k l. e k (omega arith)) in let q = e n (omega arith) in omega arith

upto_zero : (n : ℕ) → upto (λ _. 0) n ≡ 0
upto_zero zero = refl
upto_zero (suc n) = let r = upto_zero n in omega arith

upto_add : (g h : ℕ → ℕ) (n : ℕ) → upto (λ k. g k + h k) n ≡ upto g n + upto h n
upto_add g h zero = refl
upto_add g h (suc n) = let r = upto_add g h n in omega arith

upto_out : (i c n : ℕ) → n ≤ i → upto (λ k. if k == i then c else 0) n ≡ 0
upto_out i c zero l = refl
upto_out i c (suc n) l = let r = upto_out i c n (omega arith) in by_test n i (λ b. (if b then c else 0) + upto (λ k. if k == i then c else 0) n ≡ zero) (λ e. absurd (omega arith)) (λ _. omega arith)

upto_one : (i c n : ℕ) → i < n → upto (λ k. if k == i then c else 0) n ≡ c
upto_one i c zero l = absurd (omega arith)
upto_one i c (suc n) l = by_test n i (λ b. (if b then c else 0) + upto (λ k. if k == i then c else 0) n ≡ c)
    (λ e. let r = upto_out i c n (omega arith) in omega arith)
    (λ e. let r = upto_one i c n (omega arith) in omega arith)

-- as many ones as numbers
all_ones : (g : ℕ → ℕ) (n : ℕ) → ((k : ℕ) → g k ≤ 1) → upto g n ≤ n
all_ones g zero h = omega arith
all_ones g (suc n) h = let r = all_ones g n h in let q = h n in omega arith

pub each_one : (g : ℕ → ℕ) (n : ℕ) → ((k : ℕ) → g k ≤ 1) → upto g n ≡ n → (k : ℕ) → k < n → g k ≡ 1
each_one g zero h e k l = absurd (omega arith)
each_one g (suc n) h e k l = let r = all_ones g n h in let q = h n in
    by_test k n (λ b. (k ≡ n → g k ≡ 1) → (k ≢ n → g k ≡ 1) → g k ≡ 1) (λ s a b. a s) (λ s a b. b s) (λ s. ap g s ∙ (let z : g n ≡ 1 = omega arith in z)) (λ s. each_one g n h (omega arith) k (omega arith))

module _ {A : Type 0} (number : A → ℕ) (f : A → ℕ) where
  abbrev pub weigh : List A → ℕ
  weigh [] = 0
  weigh (x ∷ xs) = f x + weigh xs

  abbrev pub pick : ℕ → List A → ℕ
  pick k [] = 0
  pick k (x ∷ xs) = (if k == number x then f x else 0) + pick k xs

  pub sum_pick : (n : ℕ) (xs : List A) → Each (λ x. number x < n) xs → upto (λ k. pick k xs) n ≡ weigh xs
  sum_pick n [] h = upto_zero n
  sum_pick n (x ∷ xs) h =
      let r = sum_pick n xs h.1 in
      let a = upto_add (λ k. if k == number x then f x else 0) (λ k. pick k xs) n in
      let b = upto_one (number x) (f x) n h.0 in omega arith

upto_shift : (g : ℕ → ℕ) (n : ℕ) → upto g (suc n) ≡ g 0 + upto (λ k. g (suc k)) n
upto_shift g zero = refl
upto_shift g (suc n) = let r = upto_shift g n in omega arith

-- the value of F at a place, and its sum
abbrev pub val : {A : Type 0} → (A → ℕ) → ℕ → List A → ℕ
val F k [] = 0
val F zero (x ∷ xs) = F x
val F (suc k) (x ∷ xs) = val F k xs

abbrev pub sum_of : {A : Type 0} → (A → ℕ) → List A → ℕ
sum_of F [] = 0
sum_of F (x ∷ xs) = F x + sum_of F xs

sum_val : {A : Type 0} (F : A → ℕ) (xs : List A) → upto (λ k. val F k xs) (length xs) ≡ sum_of F xs
sum_val F [] = refl
sum_val F (x ∷ xs) = let r = sum_val F xs in let s = upto_shift (λ k. val F k (x ∷ xs)) (length xs) in omega arith

val_at : {A : Type 0} (F : A → ℕ) (k : ℕ) (xs : List A) (x : A) → get_elem? xs k ≡ some x → val F k xs ≡ F x
val_at F k [] x e = absurd (some-ne-none x (sym e))
val_at F zero (y ∷ ys) x e = ap F (some-injective y x e)
val_at F (suc k) (y ∷ ys) x e = val_at F k ys x e

there : {A : Type 0} (xs : List A) (i : ℕ) (x : A) → get_elem? xs i ≡ some x → i < length xs
there [] i x e = absurd (some-ne-none x (sym e))
there (y ∷ ys) zero x e = omega arith
there (y ∷ ys) (suc i) x e = let r = there ys i x e in omega arith

module _ {A X : Type 0} (number : X → ℕ) (value : X → A) (F : A → ℕ) (gs : List A) where
  abbrev At : X → Type 0
  At x = get_elem? gs (number x) ≡ some (value x)

  none_picked : (k : ℕ) (xs : List X) → pick number (λ _. 1) k xs ≡ 0 → pick number (λ x. F (value x)) k xs ≡ 0
  none_picked k [] h = refl
  none_picked k (x ∷ xs) h = by_test k (number x) (λ b. (if b then 1 else 0) + pick number (λ _. 1) k xs ≡ 0 → (if b then F (value x) else 0) + pick number (λ y. F (value y)) k xs ≡ zero) (λ e z. absurd (omega arith)) (λ e z. let r = none_picked k xs (omega arith) in omega arith) h

  one_picked : (k : ℕ) (xs : List X) → Each At xs → pick number (λ _. 1) k xs ≡ 1 → pick number (λ x. F (value x)) k xs ≡ val F k gs
  one_picked k [] e h = absurd (omega arith)
  one_picked k (x ∷ xs) e h = by_test k (number x) (λ b. (if b then 1 else 0) + pick number (λ _. 1) k xs ≡ 1 → (if b then F (value x) else 0) + pick number (λ y. F (value y)) k xs ≡ val F k gs)
      (λ q z. let r = none_picked k xs (omega arith) in let v = val_at F k gs (value x) (subst (λ j. get_elem? gs j ≡ some (value x)) (sym q) e.0) in omega arith)
      (λ q z. let r = one_picked k xs e.1 (omega arith) in omega arith)
      h

  in_range : (xs : List X) → Each At xs → Each (λ x. number x < length gs) xs
  in_range [] e = tt
  in_range (x ∷ xs) e = (there gs (number x) (value x) e.0, in_range xs e.1)

  -- things that stand at each place once add up to what the places add up to
  pub covers : (xs : List X) → Each At xs → ((k : ℕ) → k < length gs → pick number (λ _. 1) k xs ≡ 1) → weigh number (λ x. F (value x)) xs ≡ sum_of F gs
  covers xs e once =
      let a = sum_pick number (λ x. F (value x)) (length gs) xs (in_range xs e) in
      let b = upto_same (λ k. pick number (λ x. F (value x)) k xs) (λ k. val F k gs) (length gs) (λ k l. one_picked k xs e (once k l)) in
      let c = sum_val F gs in omega arith

  weigh_one : (xs : List X) → weigh number (λ _. 1) xs ≡ length xs
  weigh_one [] = refl
  weigh_one (x ∷ xs) = let r = weigh_one xs in omega arith

  -- as many things as places, none twice
  pub fills : (xs : List X) → Each At xs → length xs ≡ length gs → ((k : ℕ) → pick number (λ _. 1) k xs ≤ 1) → (k : ℕ) → k < length gs → pick number (λ _. 1) k xs ≡ 1
  fills xs e long once k l = each_one (λ j. pick number (λ _. 1) j xs) (length gs) once (let a = sum_pick number (λ _. 1) (length gs) xs (in_range xs e) in let b = weigh_one xs in omega arith) k l
