-- A text with more behind it, and with a line more for each item of a list. How many lines there are.
use Rattle.std.proofs.Common.{◌≡◌, ℕ, zero, suc, ◌+◌, ◌*◌, arith, List, [], ◌∷◌, ◌++◌, map, take, length, Some, Result, Ok, Err, OnOk, OnErr, if◌then◌else◌, is_ok, sym, ◌∙◌, ap, add-one, append_assoc, append-nil}
use Rattle.std.specs.List.{slice_get, flat_map}
use Rattle.std.proofs.Math.Seq.{take-append_seam}
use Rattle.bs_listing.specs.Texts.{IsFront}

-- ---- one more row of n lines
pub row_more : (i n : ℕ) → (i + 1) * n ≡ i * n + n
row_more i n = let e : (i + 1) * n ≡ suc i * n = ap (λ (m : ℕ). m * n) (add-one i) in omega (arith, e)

-- what holds holds where all went well
pub on_ok_any : {A E P : Type 0} (r : Result A E) → P → OnOk r P
on_ok_any (Ok y) h = h
on_ok_any (Err y) h = tt

-- ---- fronts
pub front_refl : (a : List ℕ) → IsFront a a
front_refl a = record { rest = []; is = sym (append-nil a) }

pub front_same : (a b : List ℕ) → b ≡ a → IsFront a b
front_same a b e = record { rest = []; is = e ∙ sym (append-nil a) }

pub front_on : {a b c : List ℕ} → IsFront a b → IsFront b c → IsFront a c
front_on {a} {b} {c} f g = record { rest = f.rest ++ g.rest; is = g.is ∙ ap (λ (t : List ℕ). t ++ g.rest) f.is ∙ append_assoc a f.rest g.rest }

pub front_if : {A E : Type 0} (r : Result A E) (a x b : List ℕ) → b ≡ (if is_ok r then a ++ x else a) → IsFront a b
front_if (Ok y) a x b e = record { rest = x; is = e }
front_if (Err y) a x b e = front_same a b e

pub front_either : {A E : Type 0} (r : Result A E) (a x b : List ℕ) → OnOk r (b ≡ a ++ x) → OnErr r (b ≡ a) → IsFront a b
front_either (Ok y) a x b ok err = record { rest = x; is = ok }
front_either (Err y) a x b ok err = front_same a b err

pub cut_back : (a b : List ℕ) → IsFront a b → take (length a) b ≡ a
cut_back a b f = ap (take (length a)) f.is ∙ take-append_seam a f.rest

-- ---- one item more
same_value : {X Y : Type 0} (f : X → Y) (a b : X) → Some a ≡ Some b → f a ≡ f b
same_value f a b e = cc

one_more : {X : Type 0} (f : X → List ℕ) (xs : List X) (i : ℕ) (x : X) → slice_get xs i ≡ Some x → flat_map f (take (suc i) xs) ≡ flat_map f (take i xs) ++ f x
one_more f [] i x e = cc
one_more f (y ∷ xs) zero x e = append-nil (f y) ∙ same_value f y x e
one_more f (y ∷ xs) (suc i) x e = ap (λ (text : List ℕ). f y ++ text) (one_more f xs i x e) ∙ sym (append_assoc (f y) (flat_map f (take i xs)) (f x))

pub item-more : {X : Type 0} (f : X → List ℕ) (out now later : List ℕ) (xs : List X) (i : ℕ) (x : X) → slice_get xs i ≡ Some x
    → now ≡ out ++ flat_map f (take i xs) → later ≡ now ++ f x → later ≡ out ++ flat_map f (take (i + 1) xs)
item-more f out now later xs i x here now_is later_is =
    later_is
    ∙ ap (λ (text : List ℕ). text ++ f x) now_is
    ∙ append_assoc out (flat_map f (take i xs)) (f x)
    ∙ ap (λ (text : List ℕ). out ++ text) (sym (one_more f xs i x here) ∙ ap (λ (n : ℕ). flat_map f (take n xs)) (sym (add-one i)))

one_mapped : {X Y : Type 0} (f : X → Y) (xs : List X) (i : ℕ) (x : X) → slice_get xs i ≡ Some x → map f (take (suc i) xs) ≡ map f (take i xs) ++ f x ∷ []
one_mapped f [] i x e = cc
one_mapped {Y = Y} f (y ∷ xs) zero x e = ap (λ (t : Y). t ∷ []) (same_value f y x e)
one_mapped {Y = Y} f (y ∷ xs) (suc i) x e = ap (λ (ts : List Y). f y ∷ ts) (one_mapped f xs i x e)

pub mapped-more : {X Y : Type 0} (f : X → Y) (now later : List Y) (xs : List X) (i : ℕ) (x : X) (y : Y) → slice_get xs i ≡ Some x → now ≡ map f (take i xs) → later ≡ now ++ y ∷ [] → y ≡ f x
    → later ≡ map f (take (i + 1) xs)
mapped-more {Y = Y} f now later xs i x y here now_is later_is y_is =
    later_is
    ∙ ap (λ (ts : List Y). ts ++ y ∷ []) now_is
    ∙ ap (λ (t : Y). map f (take i xs) ++ t ∷ []) y_is
    ∙ sym (one_mapped f xs i x here)
    ∙ ap (λ (n : ℕ). map f (take n xs)) (sym (add-one i))

pub appended : {A E : Type 0} (r : Result A E) (a x b : List ℕ) → b ≡ (if is_ok r then a ++ x else a) → OnOk r (b ≡ a ++ x)
appended (Ok y) a x b e = e
appended (Err y) a x b e = tt
