-- Lists of which each item has a property, and lists of lists.
--
-- Source: this project's own.
use Rattle.std.proofs.Common.{◌≡◌, List, [], ◌∷◌, ◌++◌, map, refl, ap₂}
use Rattle.std.specs.List.{flat_map, AllByRecursion}

pub all_append : {X : Type 0} (P : X → Type 0) (xs ys : List X) → AllByRecursion P xs → AllByRecursion P ys → AllByRecursion P (xs ++ ys)
all_append P [] ys h k = k
all_append P (x ∷ xs) ys h k = (h.0, all_append P xs ys h.1 k)

pub all_map : {X Y : Type 0} (P : Y → Type 0) (f : X → Y) (Q : X → Type 0) → ((x : X) → Q x → P (f x)) → (xs : List X) → AllByRecursion Q xs → AllByRecursion P (map f xs)
all_map P f Q g [] h = tt
all_map P f Q g (x ∷ xs) h = (g x h.0, all_map P f Q g xs h.1)

pub all_flat_map : {X Y : Type 0} (P : Y → Type 0) (f : X → List Y) (Q : X → Type 0) → ((x : X) → Q x → AllByRecursion P (f x)) → (xs : List X) → AllByRecursion Q xs → AllByRecursion P (flat_map f xs)
all_flat_map P f Q g [] h = tt
all_flat_map P f Q g (x ∷ xs) h = all_append P (f x) (flat_map f xs) (g x h.0) (all_flat_map P f Q g xs h.1)

pub all_any : {X : Type 0} (P : X → Type 0) → ((x : X) → P x) → (xs : List X) → AllByRecursion P xs
all_any P h [] = tt
all_any P h (x ∷ xs) = (h x, all_any P h xs)

pub all_both : {X : Type 0} (P Q R : X → Type 0) → ((x : X) → P x → Q x → R x) → (xs : List X) → AllByRecursion P xs → AllByRecursion Q xs → AllByRecursion R xs
all_both P Q R f [] h k = tt
all_both P Q R f (x ∷ xs) h k = (f x h.0 k.0, all_both P Q R f xs h.1 k.1)

pub all_implied : {X : Type 0} (P Q : X → Type 0) → ((x : X) → P x → Q x) → (xs : List X) → AllByRecursion P xs → AllByRecursion Q xs
all_implied P Q f [] h = tt
all_implied P Q f (x ∷ xs) h = (f x h.0, all_implied P Q f xs h.1)

-- of the items that a longer list begins with
pub all_front : {X : Type 0} (P : X → Type 0) (xs ys : List X) → AllByRecursion P (xs ++ ys) → AllByRecursion P xs
all_front P [] ys h = tt
all_front P (x ∷ xs) ys h = (h.0, all_front P xs ys h.1)

pub map_same : {X Y : Type 0} (f g : X → Y) (xs : List X) → AllByRecursion (λ x. f x ≡ g x) xs → map f xs ≡ map g xs
map_same f g [] h = refl
map_same {Y = Y} f g (x ∷ xs) h = ap₂ (λ (y : Y) (ys : List Y). y ∷ ys) h.0 (map_same f g xs h.1)

pub flat_map_same : {X Y : Type 0} (f g : X → List Y) (xs : List X) → AllByRecursion (λ x. f x ≡ g x) xs → flat_map f xs ≡ flat_map g xs
flat_map_same f g [] h = refl
flat_map_same {Y = Y} f g (x ∷ xs) h = ap₂ (λ (ys zs : List Y). ys ++ zs) h.0 (flat_map_same f g xs h.1)
