-- Sums of lists of fractions without bound, up to equality.
use Rattle.std.proofs.Common.{◌*◌, ◌<◌, List, [], ◌∷◌, ◌++◌, map, arith, sym, ◌∙◌, ap, subst, mul-pos}
use Rattle.std.specs.List.{flat_map, AllByRecursion}
use Rattle.std.proofs.lemmas.List.{map-append}
use Rattle.std.proofs.lemmas.List.Sums.{fold-append}
use Rattle.bs_frac.specs.Fraction.{Fraction, SameFraction, whole, sum_of, product_of}
use Rattle.bs_frac.specs.Written.{exactly, sum_onto}
use Rattle.bs_frac.proofs.Ring.{self, nat, plus, times, same}
use Rattle.bs_frac.proofs.Same.{same_refl, same_sym, same_trans, sum_same, product_same, zero_sum}
use Rattle.bs_tableau.proofs.Lists.{all_any}

abbrev pub IsFraction : Fraction → Type 0
IsFraction x = 0 < x.bottom

pub zero_fraction : IsFraction (whole 0)
zero_fraction = omega arith

pub one_fraction : IsFraction (whole 1)
one_fraction = omega arith

-- ---- the laws of a ring
module _ (x y z : Fraction) (hx : IsFraction x) (hy : IsFraction y) (hz : IsFraction z) where
  pub sum_assoc : SameFraction (sum_of (sum_of x y) z) (sum_of x (sum_of y z))
  sum_assoc =
      let a = x.top in let b = x.bottom in let c = y.top in let d = y.bottom in let e = z.top in let f = z.bottom in
      record {
        left = mul-pos (mul-pos hx hy) hz;
        right = mul-pos hx (mul-pos hy hz);
        cross = same (times (plus (times (plus (times (self a) (nat d)) (times (self c) (nat b))) (nat f)) (times (self e) (nat (b * d)))) (nat (b * (d * f))))
            (times (plus (times (self a) (nat (d * f))) (times (plus (times (self c) (nat f)) (times (self e) (nat d))) (nat b))) (nat ((b * d) * f))) (omega arith);
      }

  pub product_sum : SameFraction (product_of x (sum_of y z)) (sum_of (product_of x y) (product_of x z))
  product_sum =
      let a = x.top in let b = x.bottom in let c = y.top in let d = y.bottom in let e = z.top in let f = z.bottom in
      record {
        left = mul-pos hx (mul-pos hy hz);
        right = mul-pos (mul-pos hx hy) (mul-pos hx hz);
        cross = same (times (times (self a) (plus (times (self c) (nat f)) (times (self e) (nat d)))) (nat ((b * d) * (b * f))))
            (times (plus (times (times (self a) (self c)) (nat (b * f))) (times (times (self a) (self e)) (nat (b * d)))) (nat (b * (d * f)))) (omega arith);
      }

  pub product_assoc : SameFraction (product_of (product_of x y) z) (product_of x (product_of y z))
  product_assoc =
      let a = x.top in let b = x.bottom in let c = y.top in let d = y.bottom in let e = z.top in let f = z.bottom in
      record {
        left = mul-pos (mul-pos hx hy) hz;
        right = mul-pos hx (mul-pos hy hz);
        cross = same (times (times (times (self a) (self c)) (self e)) (nat (b * (d * f)))) (times (times (self a) (times (self c) (self e))) (nat ((b * d) * f))) (omega arith);
      }

pub product_comm : (x y : Fraction) → IsFraction x → IsFraction y → SameFraction (product_of x y) (product_of y x)
product_comm x y hx hy = record {
  left = mul-pos hx hy;
  right = mul-pos hy hx;
  cross = same (times (times (self x.top) (self y.top)) (nat (y.bottom * x.bottom))) (times (times (self y.top) (self x.top)) (nat (x.bottom * y.bottom))) (omega arith);
}

pub product_zero : (x : Fraction) → IsFraction x → SameFraction (product_of x (whole 0)) (whole 0)
product_zero x hx = record { left = mul-pos hx one_fraction; right = one_fraction; cross = same (times (times (self x.top) (nat 0)) (nat 1)) (times (nat 0) (nat (x.bottom * 1))) (omega arith) }

sum_zero : (z : Fraction) → IsFraction z → SameFraction z (sum_of z (whole 0))
sum_zero z h = record {
  left = h;
  right = mul-pos h one_fraction;
  cross = same (times (self z.top) (nat (z.bottom * 1))) (times (plus (times (self z.top) (nat 1)) (times (nat 0) (nat z.bottom))) (nat z.bottom)) (omega arith);
}

-- ---- sums of lists
sum_onto_fraction : (z : Fraction) (ts : List Fraction) → IsFraction z → AllByRecursion IsFraction ts → IsFraction (sum_onto exactly z ts)
sum_onto_fraction z [] h k = h
sum_onto_fraction z (t ∷ ts) h k = sum_onto_fraction (sum_of z t) ts (mul-pos h k.0) k.1

-- what a sum begins with comes out
sum_onto_total : (z : Fraction) (ts : List Fraction) → IsFraction z → AllByRecursion IsFraction ts → SameFraction (sum_onto exactly z ts) (sum_of z (sum_onto exactly (whole 0) ts))
sum_onto_total z [] h k = sum_zero z h
sum_onto_total z (t ∷ ts) h k =
    let s = sum_onto exactly (whole 0) ts in
    let hs : IsFraction s = sum_onto_fraction (whole 0) ts zero_fraction k.1 in
    let e : SameFraction (sum_onto exactly (sum_of z t) ts) (sum_of (sum_of z t) s) = sum_onto_total (sum_of z t) ts (mul-pos h k.0) k.1 in
    let hz : IsFraction (sum_of (whole 0) t) = mul-pos zero_fraction k.0 in
    let g : SameFraction (sum_onto exactly (sum_of (whole 0) t) ts) (sum_of (sum_of (whole 0) t) s) = sum_onto_total (sum_of (whole 0) t) ts hz k.1 in
    same_trans e (same_trans (sum_assoc z t s h k.0 hs) (sum_same (same_refl z h) (same_sym (same_trans g (sum_same (zero_sum t k.0) (same_refl s hs))))))

-- the sum of f over a list
abbrev pub sum_by : {X : Type 0} → (X → Fraction) → List X → Fraction
sum_by f xs = sum_onto exactly (whole 0) (map f xs)

sum_map_same : {X : Type 0} (f g : X → Fraction) (xs : List X) (z z' : Fraction) → SameFraction z z' → AllByRecursion (λ x. SameFraction (f x) (g x)) xs
    → SameFraction (sum_onto exactly z (map f xs)) (sum_onto exactly z' (map g xs))
sum_map_same f g [] z z' h k = h
sum_map_same f g (x ∷ xs) z z' h k = sum_map_same f g xs (sum_of z (f x)) (sum_of z' (g x)) (sum_same h k.0) k.1

pub sum_by_same : {X : Type 0} (f g : X → Fraction) (xs : List X) → AllByRecursion (λ x. SameFraction (f x) (g x)) xs → SameFraction (sum_by f xs) (sum_by g xs)
sum_by_same f g xs h = sum_map_same f g xs (whole 0) (whole 0) (same_refl (whole 0) zero_fraction) h

all_fractions : {X : Type 0} (f : X → Fraction) → ((x : X) → IsFraction (f x)) → (xs : List X) → AllByRecursion IsFraction (map f xs)
all_fractions f h [] = tt
all_fractions f h (x ∷ xs) = (h x, all_fractions f h xs)

module _ {X : Type 0} (f : X → Fraction) (fine : (x : X) → IsFraction (f x)) where
  pub sum_by_fraction : (xs : List X) → IsFraction (sum_by f xs)
  sum_by_fraction xs = sum_onto_fraction (whole 0) (map f xs) zero_fraction (all_fractions f fine xs)

  pub sum_by-cons : (x : X) (xs : List X) → SameFraction (sum_by f (x ∷ xs)) (sum_of (f x) (sum_by f xs))
  sum_by-cons x xs = same_trans (sum_onto_total (sum_of (whole 0) (f x)) (map f xs) (mul-pos zero_fraction (fine x)) (all_fractions f fine xs))
      (sum_same (zero_sum (f x) (fine x)) (same_refl _ (sum_by_fraction xs)))

  pub sum_by-append : (xs ys : List X) → SameFraction (sum_by f (xs ++ ys)) (sum_of (sum_by f xs) (sum_by f ys))
  sum_by-append xs ys =
      subst (λ v. SameFraction v (sum_of (sum_by f xs) (sum_by f ys)))
      (sym (ap (sum_onto exactly (whole 0)) (map-append f xs ys) ∙ fold-append sum_of (whole 0) (map f xs) (map f ys)))
      (sum_onto_total (sum_by f xs) (map f ys) (sum_by_fraction xs) (all_fractions f fine ys))

-- a factor comes out
pub sum_by-times : {X : Type 0} (f : X → Fraction) → ((x : X) → IsFraction (f x)) → (z : Fraction) → IsFraction z → (xs : List X) → SameFraction (product_of z (sum_by f xs)) (sum_by (λ x. product_of z (f x)) xs)
sum_by-times f fine z hz [] = product_zero z hz
sum_by-times f fine z hz (x ∷ xs) =
    same_trans (product_same (same_refl z hz) (sum_by-cons f fine x xs))
    (same_trans (product_sum z (f x) (sum_by f xs) hz (fine x) (sum_by_fraction f fine xs))
    (same_trans (sum_same (same_refl (product_of z (f x)) (mul-pos hz (fine x))) (sum_by-times f fine z hz xs))
    (same_sym (sum_by-cons (λ x. product_of z (f x)) (λ x. mul-pos hz (fine x)) x xs))))

pub sum_by-times_right : {X : Type 0} (f : X → Fraction) → ((x : X) → IsFraction (f x)) → (z : Fraction) → IsFraction z → (xs : List X) → SameFraction (sum_by (λ x. product_of (f x) z) xs) (product_of (sum_by f xs) z)
sum_by-times_right f fine z hz xs =
    same_trans (sum_by_same (λ x. product_of (f x) z) (λ x. product_of z (f x)) xs
    (all_any (λ x. SameFraction (product_of (f x) z) (product_of z (f x))) (λ x. product_comm (f x) z (fine x) hz) xs))
    (same_trans (same_sym (sum_by-times f fine z hz xs)) (product_comm z (sum_by f xs) hz (sum_by_fraction f fine xs)))

-- a sum over rows is the sum of the rows' sums
module _ {X Y : Type 0} (g : Y → Fraction) (fine : (y : Y) → IsFraction (g y)) (row : X → List Y) where
  pub sum_by-flat_map : (xs : List X) → SameFraction (sum_by g (flat_map row xs)) (sum_by (λ x. sum_by g (row x)) xs)
  sum_by-flat_map [] = same_refl (whole 0) zero_fraction
  sum_by-flat_map (x ∷ xs) =
      same_trans (sum_by-append g fine (row x) (flat_map row xs))
      (same_trans (sum_same (same_refl _ (sum_by_fraction g fine (row x))) (sum_by-flat_map xs))
      (same_sym (sum_by-cons (λ x. sum_by g (row x)) (λ x. sum_by_fraction g fine (row x)) x xs)))
