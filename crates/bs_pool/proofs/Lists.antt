-- Lists that agree at each place.
use Rattle.std.proofs.Common.{◌≡◌, ℕ, zero, suc, ◌+◌, ◌-◌, ◌<◌, ◌≤◌, List, [], ◌∷◌, ◌++◌, length, map, reverse, take, set, get_or, All, refl, sym, ap, subst, ◌∙◌, arith}
use Rattle.std.proofs.lemmas.List.{map-append, reverse-reverse, length-reverse, get_or-reverse, get_or-map, get_or-set_same, get_or-set_other, length-set}
use Rattle.std.proofs.lemmas.List.Elements.{All-map}
use Rattle.std.proofs.lemmas.Grind.{reverse_onto}
use Rattle.std.proofs.lemmas.Simd.{map-map}
use lib.Seq.{take-append_seam}
use mathlib.Core.Logic.{dite}
use native.Mathlib.Decide.{ℕ_discrete}
use Rattle.bs_pool.specs.declared.seat.Seat.{Seat}
use Rattle.bs_pool.specs.Seats.{AllDone, Fresh, IsDone}

-- f is the same at each place
pub same_map : {A B : Type 0} (f : A → B) (xs ys : List A) → length ys ≡ length xs → ((i : ℕ) (d : A) → i < length xs → f (get_or ys i d) ≡ f (get_or xs i d)) → map f ys ≡ map f xs
same_map f [] [] n h = refl
same_map f [] (y ∷ ys) n h = absurd (omega arith)
same_map f (x ∷ xs) [] n h = absurd (omega arith)
same_map f (x ∷ xs) (y ∷ ys) n h = let here : f y ≡ f x = h 0 x (omega arith) in ap (λ z. z ∷ map f ys) here ∙ ap (λ l. f x ∷ l) (same_map f xs ys (omega arith) (λ i d l. h (suc i) d (omega arith)))

-- the first element and the others
pub all_first : {X : Type 0} (P : X → Type 0) (l : List X) (x : X) (xs : List X) → l ≡ x ∷ xs → All P l → P x
all_first P l x xs e h = let g : All P (x ∷ xs) = subst (λ z. All P z) e h in g 0 x (omega arith)

pub all_rest : {X : Type 0} (P : X → Type 0) (l : List X) (x : X) (xs : List X) → l ≡ x ∷ xs → All P l → All P xs
all_rest P l x xs e h = let g : All P (x ∷ xs) = subst (λ z. All P z) e h in λ k d b. g (suc k) d (omega arith)

-- Lists that were turned round
pub map_turned : {A B : Type 0} (h : A → B) (xs : List A) → map h (reverse xs) ≡ reverse (map h xs)
map_turned h [] = refl
map_turned h (x ∷ xs) = ap (map h) (reverse_onto xs x []) ∙ map-append h (reverse xs) (x ∷ []) ∙ ap (λ l. l ++ h x ∷ []) (map_turned h xs) ∙ sym (reverse_onto (map h xs) (h x) [])

all_turned : {A : Type 0} (P : A → Type 0) (xs : List A) → All P xs → All P (reverse xs)
all_turned P xs h k d l = let b : k < length xs = let e = length-reverse xs in omega arith in subst P (sym (get_or-reverse xs k d b)) (h (length xs - 1 - k) d (omega arith))

module _ {M A : Type 0} (f : M → A) where
  -- what holds of the list holds of that from which it was read, turned round
  pub all_of_turned : (P : A → Type 0) (ms : List M) (xs : List A) → reverse (map f ms) ≡ xs → All P xs → All (λ m. P (f m)) ms
  all_of_turned P ms xs e h =
      let back : map f ms ≡ reverse xs = sym (reverse-reverse (map f ms)) ∙ ap reverse e in
      let g : All P (map f ms) = subst (All P) (sym back) (all_turned P xs h) in
      λ k d l. subst P (get_or-map f ms k d (f d) l) (g k (f d) (let e = long ms in omega arith))
    where
      long : (l : List M) → length (map f l) ≡ length l
      long [] = refl
      long (y ∷ ys) = let r = long ys in omega arith

  pub turned_all : (P : A → Type 0) (ms : List M) (xs : List A) → xs ≡ reverse (map f ms) → All (λ m. P (f m)) ms → All P xs
  turned_all P ms xs e h = subst (All P) (sym e) (all_turned P (map f ms) (All-map P f ms h))

  -- what is read of each is the same
  pub turned_same : {B : Type 0} (h : A → B) (ms ns : List M) (xs ys : List A) → reverse (map f ms) ≡ xs → ys ≡ reverse (map f ns) → map (λ m. h (f m)) ns ≡ map (λ m. h (f m)) ms → map h ys ≡ map h xs
  turned_same h ms ns xs ys e o s =
      ap (map h) o ∙ map_turned h (map f ns) ∙ ap reverse (map-map h f ns ∙ s ∙ sym (map-map h f ms)) ∙ sym (map_turned h (map f ms)) ∙ ap (map h) e

-- at a seat where nothing was done all that was done is right
pub all_none : (answer : ℕ → List ℕ) (seats : List Seat) → All Fresh seats → All (AllDone answer) seats
all_none answer seats h k d l = subst (λ es. All (IsDone answer) es) (sym (h k d l)) (λ j e b. absurd (omega arith))

-- what a slice of a whole list is written back to
pub written : {X : Type 0} (n : ℕ) (ns ms : List X) → n ≡ length ns → take n (ns ++ ms) ≡ ns
written n ns ms e = ap (λ k. take k (ns ++ ms)) e ∙ take-append_seam ns ms

pub same_default : {A : Type 0} (xs : List A) (k : ℕ) (d e : A) → k < length xs → get_or xs k d ≡ get_or xs k e
same_default [] k d e l = absurd (omega arith)
same_default (x ∷ xs) zero d e l = refl
same_default (x ∷ xs) (suc k) d e l = same_default xs k d e (omega arith)

-- R holds of what stands at each place below k, and the rest is the same
pub record Upto {A : Type 0} (R : A → A → Type 0) (k : ℕ) (xs ys : List A) : Type 0 where
  pub long : length ys ≡ length xs
  pub done : (j : ℕ) (d : A) → j < k → R (get_or xs j d) (get_or ys j d)
  pub rest : (j : ℕ) (d : A) → k ≤ j → get_or ys j d ≡ get_or xs j d

module _ {A : Type 0} (R : A → A → Type 0) where
  pub upto_none : (xs : List A) → Upto R 0 xs xs
  upto_none xs = record { long = refl; done = λ j d l. absurd (omega arith); rest = λ j d l. refl }

  pub upto_more : (k : ℕ) (xs ys : List A) (v w : A) → Upto R k xs ys → k < length xs → v ≡ get_or ys k v → R v w → Upto R (k + 1) xs (set ys k w)
  upto_more k xs ys v w u l e r = record {
    long = length-set ys k w ∙ u.long;
    done = λ j d b. dite (ℕ_discrete j k)
        (λ same.
        let is : v ≡ get_or xs j d = e ∙ u.rest k v (omega arith) ∙ same_default xs k v d l ∙ ap (λ i. get_or xs i d) (sym same) in
        let now : w ≡ get_or (set ys k w) j d = sym (get_or-set_same ys k w d (let o = u.long in omega arith)) ∙ ap (λ i. get_or (set ys k w) i d) (sym same) in
        subst (λ z. R z (get_or (set ys k w) j d)) is (subst (λ z. R v z) now r))
        (λ other. subst (λ z. R (get_or xs j d) z) (sym (get_or-set_other ys k j w d other)) (u.done j d (omega arith)));
    rest = λ j d b. get_or-set_other ys k j w d (λ s. absurd (omega arith)) ∙ u.rest j d (omega arith);
  }

  pub upto_all : (k : ℕ) (xs ys : List A) → Upto R k xs ys → length xs ≤ k → (length ys ≡ length xs) × ((i : ℕ) (d : A) → i < length xs → R (get_or xs i d) (get_or ys i d))
  upto_all k xs ys u l = (u.long, λ i d b. u.done i d (omega arith))
