-- Lists of lists, and runs of letters.
use Rattle.std.proofs.Common.{◌≡◌, ◌≤◌, List, [], ◌∷◌, ◌++◌, map, length, Bool, false, cond, arith, refl, ◌∙◌, ap, ap₂}
use Rattle.std.specs.List.{flat_map, filter, AllByRecursion}
use Rattle.std.proofs.lemmas.List.{map-append}
use Rattle.bs_tree.specs.SortingLaws.{by_cases}

pub map-map : {X Y Z : Type 0} (g : Y → Z) (f : X → Y) (xs : List X) → map g (map f xs) ≡ map (λ x. g (f x)) xs
map-map g f [] = refl
map-map {Z = Z} g f (x ∷ xs) = ap (λ (ys : List Z). g (f x) ∷ ys) (map-map g f xs)

pub map-flat_map : {X Y Z : Type 0} (g : Y → Z) (f : X → List Y) (xs : List X) → map g (flat_map f xs) ≡ flat_map (λ x. map g (f x)) xs
map-flat_map g f [] = refl
map-flat_map {Z = Z} g f (x ∷ xs) = map-append g (f x) (flat_map f xs) ∙ ap (λ (ys : List Z). map g (f x) ++ ys) (map-flat_map g f xs)

pub map_id : {X : Type 0} (xs : List X) → map (λ x. x) xs ≡ xs
map_id [] = refl
map_id {X} (x ∷ xs) = ap (λ (ys : List X). x ∷ ys) (map_id xs)

pub filter-append : {X : Type 0} (p : X → Bool) (xs ys : List X) → filter p (xs ++ ys) ≡ filter p xs ++ filter p ys
filter-append p [] ys = refl
filter-append {X} p (x ∷ xs) ys = by_cases (p x) (λ e. rw e (ap (λ (zs : List X). x ∷ zs) (filter-append p xs ys))) (λ e. rw e (filter-append p xs ys))

pub filter-map : {X Y : Type 0} (p : Y → Bool) (f : X → Y) (xs : List X) → filter p (map f xs) ≡ map f (filter (λ x. p (f x)) xs)
filter-map p f [] = refl
filter-map {Y = Y} p f (x ∷ xs) = by_cases (p (f x)) (λ e. rw e (ap (λ (zs : List Y). f x ∷ zs) (filter-map p f xs))) (λ e. rw e (filter-map p f xs))

pub filter_same : {X : Type 0} (p q : X → Bool) (xs : List X) → AllByRecursion (λ x. p x ≡ q x) xs → filter p xs ≡ filter q xs
filter_same p q [] h = refl
filter_same {X} p q (x ∷ xs) h = ap₂ (λ (b : Bool) (zs : List X). cond b (x ∷ zs) zs) h.0 (filter_same p q xs h.1)

pub filter_none : {X : Type 0} (xs : List X) → filter (λ x. false) xs ≡ []
filter_none [] = refl
filter_none (x ∷ xs) = filter_none xs

pub all_filter : {X : Type 0} (P : X → Type 0) (p : X → Bool) (xs : List X) → AllByRecursion P xs → AllByRecursion P (filter p xs)
all_filter P p [] h = tt
all_filter P p (x ∷ xs) h = by_cases (p x) (λ e. rw e (h.0, all_filter P p xs h.1)) (λ e. rw e (all_filter P p xs h.1))

pub filter_fewer : {X : Type 0} (p : X → Bool) (xs : List X) → length (filter p xs) ≤ length xs
filter_fewer p [] = omega arith
filter_fewer p (x ∷ xs) = by_cases (p x) (λ e. rw e (omega (arith, filter_fewer p xs))) (λ e. rw e (omega (arith, filter_fewer p xs)))
