-- Lists that are walked by their places.
use Rattle.std.proofs.Common.{◌≡◌, ℕ, zero, suc, ◌+◌, ◌<◌, List, [], ◌∷◌, ◌++◌, map, take, drop, length, Some, slice_get, slice_index_or, refl, sym, ◌∙◌, ap, ap₂, arith, append_assoc, add-one}
use Rattle.std.specs.List.{AllByRecursion}
use Rattle.std.proofs.Math.Seq.{drop-cons, take-suc}
use Rattle.std.proofs.lemmas.List.{map-append}
use Rattle.std.proofs.lemmas.Option.{get_or_from_slice_get, slice_get_within}

pub drop_next : {X : Type 0} (xs : List X) (k : ℕ) (x : X) → slice_get xs k ≡ Some x → drop k xs ≡ x ∷ drop (k + 1) xs
drop_next {X} xs k x e =
    drop-cons xs k x (slice_get_within xs k x e) ∙ ap₂ (λ (y : X) (n : ℕ). y ∷ drop n xs) (get_or_from_slice_get xs k x x e) (sym (add-one k))

pub take_next : {X : Type 0} (xs : List X) (k : ℕ) (x : X) → slice_get xs k ≡ Some x → take (k + 1) xs ≡ take k xs ++ x ∷ []
take_next {X} xs k x e =
    ap (λ (n : ℕ). take n xs) (add-one k) ∙ take-suc xs k x (slice_get_within xs k x e) ∙ ap (λ (y : X). take k xs ++ y ∷ []) (get_or_from_slice_get xs k x x e)

-- one more of a walk that puts an item for each element behind those before
pub walked_on : {X Y : Type 0} (f : X → Y) (xs : List X) (k : ℕ) (x : X) (ys ws zs : List Y) → slice_get xs k ≡ Some x → ws ≡ ys ++ f x ∷ [] → ys ++ map f (drop k xs) ≡ zs
    → ws ++ map f (drop (k + 1) xs) ≡ zs
walked_on {X} {Y} f xs k x ys ws zs e p h =
    ap (λ (vs : List Y). vs ++ map f (drop (k + 1) xs)) p
    ∙ append_assoc ys (f x ∷ []) (map f (drop (k + 1) xs)) ∙ ap (λ (w : List X). ys ++ map f w) (sym (drop_next xs k x e)) ∙ h

pub map_next : {X Y : Type 0} (f : X → Y) (xs : List X) (k : ℕ) (x : X) → slice_get xs k ≡ Some x → map f (take (k + 1) xs) ≡ map f (take k xs) ++ f x ∷ []
map_next f xs k x e = ap (map f) (take_next xs k x e) ∙ map-append f (take k xs) (x ∷ [])

pub all_at : {X : Type 0} (P : X → Type 0) (xs : List X) (k : ℕ) (d : X) → AllByRecursion P xs → k < length xs → P (slice_index_or xs k d)
all_at P [] k d h l = absurd (omega arith)
all_at P (x ∷ xs) zero d h l = h.0
all_at P (x ∷ xs) (suc k) d h l = all_at P xs k d h.1 (omega arith)

pub map_twice : {X Y Z W : Type 0} (f : Y → W) (g : X → Y) (h : Z → W) (k : X → Z) → ((x : X) → f (g x) ≡ h (k x)) → (xs : List X) → map f (map g xs) ≡ map h (map k xs)
map_twice f g h k e [] = refl
map_twice {X} {Y} {Z} {W} f g h k e (x ∷ xs) = ap₂ (λ (w : W) (ws : List W). w ∷ ws) (e x) (map_twice f g h k e xs)
