-- Lists: what stands in them, facts of each element, strictly decreasing lists, and what a filter keeps.
use Rattle.std.proofs.Common.{◌≡◌, ℕ, suc, zero, ◌<◌, ◌⊎◌, inl, inr, List, [], ◌∷◌, ◌++◌, length, map, Bool, true, false, cond, refl, ap, subst, sym, arith}
use Rattle.std.specs.Prelude.{filter, flat_map, Contains, slice_index_or}
use Rattle.std.specs.List.{AllByRecursion}
use Rattle.std.specs.declared.cmp.Ordering.{Ordering}
use Rattle.std.specs.declared.cmp.Ordering.TheVariants.{Less}
use Rattle.bs_tree.specs.SortingLaws.{by_cases}

-- ---- standing in a list
abbrev pub IsIn : {X : Type 0} → X → List X → Type 0
IsIn x [] = ⊥
IsIn x (y ∷ ys) = (x ≡ y) ⊎ IsIn x ys

pub in_front : {X : Type 0} (x : X) (xs ys : List X) → IsIn x xs → IsIn x (xs ++ ys)
in_front x [] ys h = absurd h
in_front x (y ∷ xs) ys (inl h) = inl h
in_front x (y ∷ xs) ys (inr h) = inr (in_front x xs ys h)

pub in_back : {X : Type 0} (x : X) (xs ys : List X) → IsIn x ys → IsIn x (xs ++ ys)
in_back x [] ys h = h
in_back x (y ∷ xs) ys h = inr (in_back x xs ys h)

pub in_map : {X Y : Type 0} (f : X → Y) (x : X) (xs : List X) → IsIn x xs → IsIn (f x) (map f xs)
in_map f x [] h = h
in_map f x (y ∷ ys) (inl h) = inl (ap f h)
in_map f x (y ∷ ys) (inr h) = inr (in_map f x ys h)

pub in_flat : {X Y : Type 0} (f : X → List Y) (x : X) (y : Y) (xs : List X) → IsIn x xs → IsIn y (f x) → IsIn y (flat_map f xs)
in_flat {X} {Y} f x y [] h k = absurd h
in_flat {X} {Y} f x y (z ∷ zs) (inl h) k = in_front y (f z) (flat_map f zs) (subst (λ (w : X). IsIn y (f w)) h k)
in_flat {X} {Y} f x y (z ∷ zs) (inr h) k = in_back y (f z) (flat_map f zs) (in_flat f x y zs h k)

pub in_filter : {X : Type 0} (p : X → Bool) (x : X) (xs : List X) → IsIn x xs → p x ≡ true → IsIn x (filter p xs)
in_filter {X} p x [] h k = h
in_filter {X} p x (y ∷ ys) (inl h) k = let e : p y ≡ true = subst (λ (z : X). p z ≡ true) h k in rw e (inl h)
in_filter {X} p x (y ∷ ys) (inr h) k = by_cases (p y) (λ e. rw e (inr (in_filter p x ys h k))) (λ e. rw e (in_filter p x ys h k))

-- ---- each element
pub all_append : {X : Type 0} (P : X → Type 0) (xs ys : List X) → AllByRecursion P xs → AllByRecursion P ys → AllByRecursion P (xs ++ ys)
all_append P [] ys h k = k
all_append P (x ∷ xs) ys h k = (h.0, all_append P xs ys h.1 k)

pub all_first : {X : Type 0} (P : X → Type 0) (xs ys : List X) → AllByRecursion P (xs ++ ys) → AllByRecursion P xs
all_first P [] ys h = tt
all_first P (x ∷ xs) ys h = (h.0, all_first P xs ys h.1)

pub all_last : {X : Type 0} (P : X → Type 0) (xs ys : List X) → AllByRecursion P (xs ++ ys) → AllByRecursion P ys
all_last P [] ys h = h
all_last P (x ∷ xs) ys h = all_last P xs ys h.1

pub all_map : {X Y : Type 0} (P : X → Type 0) (Q : Y → Type 0) (f : X → Y) (xs : List X) → ((x : X) → P x → Q (f x)) → AllByRecursion P xs → AllByRecursion Q (map f xs)
all_map P Q f [] g h = tt
all_map P Q f (x ∷ xs) g h = (g x h.0, all_map P Q f xs g h.1)

pub all_flat : {X Y : Type 0} (P : X → Type 0) (Q : Y → Type 0) (f : X → List Y) (xs : List X) → ((x : X) → P x → AllByRecursion Q (f x)) → AllByRecursion P xs → AllByRecursion Q (flat_map f xs)
all_flat P Q f [] g h = tt
all_flat P Q f (x ∷ xs) g h = all_append Q (f x) (flat_map f xs) (g x h.0) (all_flat P Q f xs g h.1)

pub all_kept : {X : Type 0} (p : X → Bool) (P Q : X → Type 0) (xs : List X) → ((x : X) → p x ≡ true → P x → Q x) → AllByRecursion P xs → AllByRecursion Q (filter p xs)
all_kept p P Q [] g h = tt
all_kept p P Q (x ∷ xs) g h = by_cases (p x) (λ e. rw e (g x e h.0, all_kept p P Q xs g h.1)) (λ e. rw e (all_kept p P Q xs g h.1))

pub all_weaker : {X : Type 0} (P Q : X → Type 0) (xs : List X) → ((x : X) → P x → Q x) → AllByRecursion P xs → AllByRecursion Q xs
all_weaker P Q [] g h = tt
all_weaker P Q (x ∷ xs) g h = (g x h.0, all_weaker P Q xs g h.1)

-- ---- strictly decreasing lists
abbrev pub Falls : {X : Type 0} → (X → X → Ordering) → List X → Type 0
Falls R [] = Unit {0}
Falls R (x ∷ xs) = AllByRecursion (λ y. R y x ≡ Less) xs × Falls R xs

pub falls_append : {X : Type 0} (R : X → X → Ordering) (xs ys : List X) → Falls R xs → Falls R ys → AllByRecursion (λ x. AllByRecursion (λ y. R y x ≡ Less) ys) xs → Falls R (xs ++ ys)
falls_append R [] ys h k m = k
falls_append R (x ∷ xs) ys h k m = (all_append (λ y. R y x ≡ Less) xs ys h.0 m.0, falls_append R xs ys h.1 k m.1)

pub falls_map : {X Y : Type 0} (R : X → X → Ordering) (S : Y → Y → Ordering) (f : X → Y) (xs : List X) → ((x y : X) → R y x ≡ Less → S (f y) (f x) ≡ Less) → Falls R xs → Falls S (map f xs)
falls_map R S f [] g h = tt
falls_map R S f (x ∷ xs) g h = (all_map (λ y. R y x ≡ Less) (λ y. S y (f x) ≡ Less) f xs (λ y e. g x y e) h.0, falls_map R S f xs g h.1)

pub falls_flat : {X Y : Type 0} (R : X → X → Ordering) (S : Y → Y → Ordering) (f : X → List Y) (xs : List X) → ((x : X) → Falls S (f x))
    → ((x y : X) → R y x ≡ Less → AllByRecursion (λ a. AllByRecursion (λ b. S b a ≡ Less) (f y)) (f x)) → Falls R xs → Falls S (flat_map f xs)
falls_flat R S f [] g m h = tt
falls_flat {X} {Y} R S f (x ∷ xs) g m h = falls_append S (f x) (flat_map f xs) (g x) (falls_flat R S f xs g m h.1) (under xs h.0)
  where
    both : (A B : Y → Type 0) (as_ : List Y) → AllByRecursion A as_ → AllByRecursion B as_ → AllByRecursion (λ a. A a × B a) as_
    both A B [] p q = tt
    both A B (a ∷ as_) p q = ((p.0, q.0), both A B as_ p.1 q.1)

    none_under : (as_ : List Y) → AllByRecursion (λ a. AllByRecursion (λ b. S b a ≡ Less) []) as_
    none_under [] = tt
    none_under (a ∷ as_) = (tt, none_under as_)

    under : (ys : List X) → AllByRecursion (λ y. R y x ≡ Less) ys → AllByRecursion (λ a. AllByRecursion (λ b. S b a ≡ Less) (flat_map f ys)) (f x)
    under [] p = none_under (f x)
    under (y ∷ ys) p =
        all_weaker (λ a. AllByRecursion (λ b. S b a ≡ Less) (f y) × AllByRecursion (λ b. S b a ≡ Less) (flat_map f ys)) (λ a. AllByRecursion (λ b. S b a ≡ Less) (f y ++ flat_map f ys)) (f x)
        (λ a q. all_append (λ b. S b a ≡ Less) (f y) (flat_map f ys) q.0 q.1)
        (both (λ a. AllByRecursion (λ b. S b a ≡ Less) (f y)) (λ a. AllByRecursion (λ b. S b a ≡ Less) (flat_map f ys)) (f x) (m x y p.0) (under ys p.1))

pub falls_filter : {X : Type 0} (R : X → X → Ordering) (p : X → Bool) (xs : List X) → Falls R xs → Falls R (filter p xs)
falls_filter R p [] h = tt
falls_filter R p (x ∷ xs) h =
    by_cases (p x) (λ e. rw e (all_kept p (λ y. R y x ≡ Less) (λ y. R y x ≡ Less) xs (λ _ _ k. k) h.0, falls_filter R p xs h.1)) (λ e. rw e (falls_filter R p xs h.1))

-- ---- what a filter keeps
pub filter_all : {X : Type 0} (p : X → Bool) (xs : List X) → AllByRecursion (λ x. p x ≡ true) xs → filter p xs ≡ xs
filter_all p [] h = refl
filter_all {X} p (x ∷ xs) h = rw h.0 (ap (λ (ys : List X). x ∷ ys) (filter_all p xs h.1))

pub filter_none : {X : Type 0} (xs : List X) → filter (λ _. false) xs ≡ []
filter_none [] = refl
filter_none (x ∷ xs) = filter_none xs

-- ---- Contains, by recursion
pub contains_in : {X : Type 0} (x : X) (xs : List X) → IsIn x xs → Contains xs x
contains_in x [] h = absurd h
contains_in x (y ∷ ys) (inl h) = (0, omega arith, sym h)
contains_in x (y ∷ ys) (inr h) = let r = contains_in x ys h in (suc r.0, let k = r.1 in omega arith, r.2)

pub in_contains : {X : Type 0} (xs : List X) (x : X) → Contains xs x → IsIn x xs
in_contains xs x h = by xs x h.0 h.1 h.2
  where
    by : {X : Type 0} (xs : List X) (x : X) (i : ℕ) → i < length xs → slice_index_or xs i x ≡ x → IsIn x xs
    by [] x i k e = absurd (omega arith)
    by (y ∷ ys) x zero k e = inl (sym e)
    by (y ∷ ys) x (suc i) k e = inr (by ys x i (omega arith) e)
