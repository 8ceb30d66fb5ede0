-- Sums over a list that is made child by child do not change where the children are sorted.
use Rattle.std.proofs.Common.{◌≡◌, ℕ, ◌*◌, List, [], ◌∷◌, ◌++◌, map, arith, ap, subst, mul-pos}
use Rattle.std.specs.List.{flat_map}
use Rattle.bs_frac.specs.Fraction.{Fraction, SameFraction, sum_of, product_of, whole}
use Rattle.bs_frac.specs.Written.{exactly, sum_onto}
use Rattle.bs_frac.proofs.Same.{same_refl, same_sym, same_trans, sum_same, product_same, zero_sum}
use Rattle.bs_frac.proofs.Ring.{self, nat, plus, times, same}
use Rattle.bs_tree.specs.Tree.{Forest, none, grow, Tree}
use Rattle.bs_tree.specs.Canonical.{is_above, insert, sorted}
use Rattle.bs_tree.specs.ListLaws.{all_any}
use Rattle.bs_tree.specs.SortingLaws.{by_cases}
use Rattle.bs_tableau.proofs.Totals.{IsFraction, zero_fraction, one_fraction, sum_by, sum_by_same, sum_by_fraction, sum_by-cons, sum_by-append, sum_by-flat_map, product_comm, product_assoc}
use Rattle.bs_split.proofs.Lists.{map-map}

abbrev pub IsFine : {X : Type 0} → (X → Fraction) → Type 0
IsFine {X} g = (x : X) → IsFraction (g x)

-- each sum over the one list is the sum over the other
abbrev pub SameSums : {X : Type 0} → List X → List X → Type 0
SameSums {X} xs ys = (g : X → Fraction) → IsFine g → SameFraction (sum_by g xs) (sum_by g ys)

pub from_equal : {x y : Fraction} → x ≡ y → IsFraction x → SameFraction x y
from_equal {x} e h = subst (λ v. SameFraction x v) e (same_refl x h)

pub each_same : {X : Type 0} (f g : X → Fraction) → ((x : X) → SameFraction (f x) (g x)) → (xs : List X) → SameFraction (sum_by f xs) (sum_by g xs)
each_same f g h xs = sum_by_same f g xs (all_any (λ x. SameFraction (f x) (g x)) h xs)

pub sum_by_map : {X Y : Type 0} (g : Y → Fraction) (f : X → Y) (xs : List X) → sum_by g (map f xs) ≡ sum_by (λ x. g (f x)) xs
sum_by_map g f xs = ap (sum_onto exactly (whole 0)) (map-map g f xs)

-- ---- sums of sums
module _ (x y z w : Fraction) (hx : IsFraction x) (hy : IsFraction y) (hz : IsFraction z) (hw : IsFraction w) where
  exchanged : SameFraction (sum_of (sum_of x y) (sum_of z w)) (sum_of (sum_of x z) (sum_of y w))
  exchanged =
      let a = x.top in let b = x.bottom in let c = y.top in let d = y.bottom in let e = z.top in let f = z.bottom in let k = w.top in let l = w.bottom in
      record {
        left = mul-pos (mul-pos hx hy) (mul-pos hz hw);
        right = mul-pos (mul-pos hx hz) (mul-pos hy hw);
        cross = same (times (plus (times (plus (times (self a) (nat d)) (times (self c) (nat b))) (nat (f * l))) (times (plus (times (self e) (nat l)) (times (self k) (nat f))) (nat (b * d)))) (nat ((b * f) * (d * l))))
            (times (plus (times (plus (times (self a) (nat f)) (times (self e) (nat b))) (nat (d * l))) (times (plus (times (self c) (nat l)) (times (self k) (nat d))) (nat (b * f)))) (nat ((b * d) * (f * l)))) (omega arith);
      }

sum_by_zero : {X : Type 0} (xs : List X) → SameFraction (whole 0) (sum_by (λ (x : X). whole 0) xs)
sum_by_zero [] = same_refl (whole 0) zero_fraction
sum_by_zero {X} (x ∷ xs) =
    same_trans (sum_by_zero xs)
    (same_trans (same_sym (zero_sum _ (sum_by_fraction (λ (y : X). whole 0) (λ y. zero_fraction) xs)))
    (same_sym (sum_by-cons (λ (y : X). whole 0) (λ y. zero_fraction) x xs)))

pub sum_by_add : {X : Type 0} (f g : X → Fraction) → IsFine f → IsFine g → (xs : List X) → SameFraction (sum_by (λ x. sum_of (f x) (g x)) xs) (sum_of (sum_by f xs) (sum_by g xs))
sum_by_add f g hf hg [] = same_sym (zero_sum (whole 0) zero_fraction)
sum_by_add f g hf hg (x ∷ xs) =
    same_trans (sum_by-cons (λ y. sum_of (f y) (g y)) (λ y. mul-pos (hf y) (hg y)) x xs)
    (same_trans (sum_same (same_refl (sum_of (f x) (g x)) (mul-pos (hf x) (hg x))) (sum_by_add f g hf hg xs))
    (same_trans (exchanged (f x) (g x) (sum_by f xs) (sum_by g xs) (hf x) (hg x) (sum_by_fraction f hf xs) (sum_by_fraction g hg xs))
    (sum_same (same_sym (sum_by-cons f hf x xs)) (same_sym (sum_by-cons g hg x xs)))))

module _ {X Y : Type 0} (k : X → Y → Fraction) (fine : (x : X) (y : Y) → IsFraction (k x y)) where
  either_first : (xs : List X) (ys : List Y) → SameFraction (sum_by (λ x. sum_by (k x) ys) xs) (sum_by (λ y. sum_by (λ x. k x y) xs) ys)
  either_first [] ys = sum_by_zero ys
  either_first (x ∷ xs) ys =
      let inner : Y → Fraction = λ y. sum_by (λ z. k z y) xs in
      let hi : IsFine inner = λ y. sum_by_fraction (λ z. k z y) (λ z. fine z y) xs in
      same_trans (sum_by-cons (λ z. sum_by (k z) ys) (λ z. sum_by_fraction (k z) (fine z) ys) x xs)
      (same_trans (sum_same (same_refl (sum_by (k x) ys) (sum_by_fraction (k x) (fine x) ys)) (either_first xs ys))
      (same_trans (same_sym (sum_by_add (k x) inner (fine x) hi ys))
      (each_same (λ y. sum_of (k x y) (inner y)) (λ y. sum_by (λ z. k z y) (x ∷ xs)) (λ y. same_sym (sum_by-cons (λ z. k z y) (λ z. fine z y) x xs)) ys)))

-- ---- lists with the same sums
pub sums_refl : {X : Type 0} (xs : List X) → SameSums xs xs
sums_refl xs g h = same_refl (sum_by g xs) (sum_by_fraction g h xs)

pub sums_trans : {X : Type 0} (xs ys zs : List X) → SameSums xs ys → SameSums ys zs → SameSums xs zs
sums_trans xs ys zs p q g h = same_trans (p g h) (q g h)

pub sums_append : {X : Type 0} (xs xs' ys ys' : List X) → SameSums xs xs' → SameSums ys ys' → SameSums (xs ++ ys) (xs' ++ ys')
sums_append xs xs' ys ys' p q g h =
    same_trans (sum_by-append g h xs ys) (same_trans (sum_same (p g h) (q g h)) (same_sym (sum_by-append g h xs' ys')))

pub sums_map : {X Y : Type 0} (f : X → Y) (xs ys : List X) → SameSums xs ys → SameSums (map f xs) (map f ys)
sums_map f xs ys p g h =
    same_trans (from_equal (sum_by_map g f xs) (sum_by_fraction g h (map f xs)))
    (same_trans (p (λ x. g (f x)) (λ x. h (f x))) (same_sym (from_equal (sum_by_map g f ys) (sum_by_fraction g h (map f ys)))))

-- ---- items made child by child: each choice for a tree acts on each item of the later trees
module _ {C X : Type 0} (act : C → X → X) where
  abbrev pub rows : List C → List X → List X
  rows cs xs = flat_map (λ c. map (act c) xs) cs

  sums_of_rows : (g : X → Fraction) → IsFine g → (cs : List C) (xs : List X) → SameFraction (sum_by g (rows cs xs)) (sum_by (λ c. sum_by (λ x. g (act c x)) xs) cs)
  sums_of_rows g h cs xs =
      same_trans (sum_by-flat_map g h (λ c. map (act c) xs) cs)
      (each_same (λ c. sum_by g (map (act c) xs)) (λ c. sum_by (λ x. g (act c x)) xs)
      (λ c. from_equal (sum_by_map g (act c) xs) (sum_by_fraction g h (map (act c) xs))) cs)

  pub sums_rows : (cs ds : List C) (xs ys : List X) → SameSums cs ds → SameSums xs ys → SameSums (rows cs xs) (rows ds ys)
  sums_rows cs ds xs ys p q g h =
      same_trans (sums_of_rows g h cs xs)
      (same_trans (p (λ c. sum_by (λ x. g (act c x)) xs) (λ c. sum_by_fraction (λ x. g (act c x)) (λ x. h (act c x)) xs))
      (same_trans (each_same (λ c. sum_by (λ x. g (act c x)) xs) (λ c. sum_by (λ x. g (act c x)) ys) (λ c. q (λ x. g (act c x)) (λ x. h (act c x))) ds)
      (same_sym (sums_of_rows g h ds ys))))

  module _ (commute : (c d : C) (x : X) → act c (act d x) ≡ act d (act c x)) where
    two_rows : (g : X → Fraction) → IsFine g → (cs ds : List C) (xs : List X)
        → SameFraction (sum_by g (rows cs (rows ds xs))) (sum_by (λ c. sum_by (λ d. sum_by (λ x. g (act c (act d x))) xs) ds) cs)
    two_rows g h cs ds xs =
        same_trans (sums_of_rows g h cs (rows ds xs))
        (each_same (λ c. sum_by (λ x. g (act c x)) (rows ds xs)) (λ c. sum_by (λ d. sum_by (λ x. g (act c (act d x))) xs) ds)
        (λ c. sums_of_rows (λ x. g (act c x)) (λ x. h (act c x)) ds xs) cs)

    pub rows_exchanged : (cs ds : List C) (xs : List X) → SameSums (rows cs (rows ds xs)) (rows ds (rows cs xs))
    rows_exchanged cs ds xs g h =
        let k : C → C → Fraction = λ c d. sum_by (λ x. g (act c (act d x))) xs in
        let hk : (c d : C) → IsFraction (k c d) = λ c d. sum_by_fraction (λ x. g (act c (act d x))) (λ x. h (act c (act d x))) xs in
        same_trans (two_rows g h cs ds xs)
        (same_trans (either_first k hk cs ds)
        (same_trans (each_same (λ d. sum_by (λ c. k c d) cs) (λ d. sum_by (λ c. k d c) cs)
        (λ d. each_same (λ c. k c d) (λ c. k d c)
        (λ c. each_same (λ x. g (act c (act d x))) (λ x. g (act d (act c x))) (λ x. from_equal (ap g (commute c d x)) (h (act c (act d x)))) xs) cs) ds)
        (same_sym (two_rows g h ds cs xs))))

    module _ (nil : X) (choices : ℕ → Forest → List X → List C)
        (choices_same : (c : ℕ) (f : Forest) (xs ys : List X) → SameSums xs ys → SameSums (choices c (sorted f) xs) (choices c f ys)) where
      abbrev pub items : Forest → List X
      items none = nil ∷ []
      items (grow c kids rest) = rows (choices c kids (items kids)) (items rest)

      items_insert : (t : Tree) (f : Forest) → SameSums (items (insert t f)) (items (grow t.colour t.below f))
      items_insert t none = sums_refl (items (grow t.colour t.below none))
      items_insert t (grow d below more) =
          let ds = choices d below (items below) in
          let ts = choices t.colour t.below (items t.below) in
          by_cases (is_above (record { colour = d; below = below }) t)
          (λ e. rw e (sums_trans (rows ds (items (insert t more))) (rows ds (rows ts (items more))) (rows ts (rows ds (items more)))
          (sums_rows ds ds (items (insert t more)) (rows ts (items more)) (sums_refl ds) (items_insert t more))
          (rows_exchanged ds ts (items more))))
          (λ e. rw e (sums_refl (rows ts (rows ds (items more)))))

      pub items_sorted : (f : Forest) → SameSums (items (sorted f)) (items f)
      items_sorted none = sums_refl (nil ∷ [])
      items_sorted (grow c kids rest) =
          let cs = choices c kids (items kids) in
          let ds = choices c (sorted kids) (items (sorted kids)) in
          let t : Tree = record { colour = c; below = sorted kids } in
          sums_trans (items (insert t (sorted rest))) (rows ds (items (sorted rest))) (rows cs (items rest))
          (items_insert t (sorted rest))
          (sums_rows ds cs (items (sorted rest)) (items rest) (choices_same c kids (items (sorted kids)) (items kids) (items_sorted kids)) (items_sorted rest))

-- ---- products over lists of trees
abbrev pub product_over : (Tree → Fraction) → Forest → Fraction
product_over a none = whole 1
product_over a (grow c kids rest) = product_of (a (record { colour = c; below = kids })) (product_over a rest)

module _ (a : Tree → Fraction) (fine : (t : Tree) → IsFraction (a t)) where
  pub product_over_fraction : (f : Forest) → IsFraction (product_over a f)
  product_over_fraction none = one_fraction
  product_over_fraction (grow c kids rest) = mul-pos (fine (record { colour = c; below = kids })) (product_over_fraction rest)

  pub product_over_insert : (t : Tree) (f : Forest) → SameFraction (product_over a (insert t f)) (product_of (a t) (product_over a f))
  product_over_insert t none = same_refl (product_of (a t) (whole 1)) (mul-pos (fine t) one_fraction)
  product_over_insert t (grow d below more) =
      let u : Tree = record { colour = d; below = below } in
      let p = product_over a more in
      let hp = product_over_fraction more in
      by_cases (is_above u t)
      (λ e. rw e (same_trans (product_same (same_refl (a u) (fine u)) (product_over_insert t more))
      (same_trans (same_sym (product_assoc (a u) (a t) p (fine u) (fine t) hp))
      (same_trans (product_same (product_comm (a u) (a t) (fine u) (fine t)) (same_refl p hp))
      (product_assoc (a t) (a u) p (fine t) (fine u) hp)))))
      (λ e. rw e (same_refl (product_of (a t) (product_of (a u) p)) (mul-pos (fine t) (mul-pos (fine u) hp))))
