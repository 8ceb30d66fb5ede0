-- Maps of maps, and runs of letters.
use Rattle.std.proofs.Common.{◌≡◌, ℕ, suc, zero, ◌+◌, List, [], ◌∷◌, ◌++◌, map, take, drop, length, Bool, arith, refl, sym, ◌∙◌, ap}
use Rattle.std.specs.List.{flat_map}
use Rattle.std.proofs.Math.Seq.{take-append_seam, drop-append_seam}
use Rattle.std.proofs.lemmas.List.{map-append}

pub map-map : {X Y Z : Type 0} (g : Y → Z) (f : X → Y) (xs : List X) → map g (map f xs) ≡ map (λ x. g (f x)) xs
map-map g f [] = refl
map-map {Z = Z} g f (x ∷ xs) = ap (λ (ys : List Z). g (f x) ∷ ys) (map-map g f xs)

pub map-flat_map : {X Y Z : Type 0} (g : Y → Z) (f : X → List Y) (xs : List X) → map g (flat_map f xs) ≡ flat_map (λ x. map g (f x)) xs
map-flat_map g f [] = refl
map-flat_map {Z = Z} g f (x ∷ xs) = map-append g (f x) (flat_map f xs) ∙ ap (λ (ys : List Z). map g (f x) ++ ys) (map-flat_map g f xs)

pub map_id : {X : Type 0} (xs : List X) → map (λ x. x) xs ≡ xs
map_id [] = refl
map_id {X} (x ∷ xs) = ap (λ (ys : List X). x ∷ ys) (map_id xs)

pub take_first : (m : ℕ) (u v : List Bool) → length u ≡ m → take m (u ++ v) ≡ u
take_first m u v h = ap (λ (n : ℕ). take n (u ++ v)) (sym h) ∙ take-append_seam u v

pub drop_first : (m : ℕ) (u v : List Bool) → length u ≡ m → drop m (u ++ v) ≡ v
drop_first m u v h = ap (λ (n : ℕ). drop n (u ++ v)) (sym h) ∙ drop-append_seam u v

-- the first of two runs of letters
pub take-front : (m n : ℕ) (w : List Bool) → take m (take (m + n) w) ≡ take m w
take-front zero n w = refl
take-front (suc m) n [] = let e : suc m + n ≡ suc (m + n) = omega arith in ap (λ (k : ℕ). take (suc m) (take k [])) e
take-front (suc m) n (b ∷ w) = let e : suc m + n ≡ suc (m + n) = omega arith in ap (λ (k : ℕ). take (suc m) (take k (b ∷ w))) e ∙ ap (λ (u : List Bool). b ∷ u) (take-front m n w)
