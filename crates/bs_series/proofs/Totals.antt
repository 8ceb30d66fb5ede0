-- Sums and products of lists of fractions, up to equality.
use Rattle.std.proofs.Common.{◌*◌, ◌<◌, List, [], ◌∷◌, map, arith, mul-pos}
use Rattle.bs_frac.specs.Fraction.{Fraction, SameFraction, sum_of, product_of, opposite_of, whole}
use Rattle.bs_frac.specs.Written.{exactly, sum_onto, less_all}
use Rattle.bs_frac.proofs.Same.{same_refl, same_sym, same_trans, sum_same, product_same, opposite_same, zero_sum, sum_assoc}
use Rattle.bs_frac.proofs.Ring.{self, nat, plus, minus, times, same, out}
use Rattle.std.specs.List.{fold, AllByRecursion}

abbrev pub IsFraction : Fraction → Type 0
IsFraction x = 0 < x.bottom

-- ---- positive denominators
pub sum_onto_fraction : (z : Fraction) (ts : List Fraction) → IsFraction z → AllByRecursion IsFraction ts → IsFraction (sum_onto exactly z ts)
sum_onto_fraction z [] h k = h
sum_onto_fraction z (t ∷ ts) h k = sum_onto_fraction (sum_of z t) ts (mul-pos h k.0) k.1

pub less_all_fraction : (z : Fraction) (ts : List Fraction) → IsFraction z → AllByRecursion IsFraction ts → IsFraction (less_all exactly z ts)
less_all_fraction z [] h k = h
less_all_fraction z (t ∷ ts) h k = less_all_fraction (sum_of z (opposite_of t)) ts (mul-pos h k.0) k.1

pub product_from_fraction : (z : Fraction) (ts : List Fraction) → IsFraction z → AllByRecursion IsFraction ts → IsFraction (fold product_of z ts)
product_from_fraction z [] h k = h
product_from_fraction z (t ∷ ts) h k = product_from_fraction (product_of z t) ts (mul-pos h k.0) k.1

-- ---- a sum that subtracts
module _ (z t s : Fraction) (hz : IsFraction z) (ht : IsFraction t) (hs : IsFraction s) where
  less_lem : SameFraction (sum_of (sum_of z (opposite_of t)) (opposite_of s)) (sum_of z (opposite_of (sum_of (sum_of (whole 0) t) s)))
  less_lem =
      let a = z.top in let b = z.bottom in let c = t.top in let d = t.bottom in let e = s.top in let f = s.bottom in
      record {
        left = mul-pos (mul-pos hz ht) hs;
        right = mul-pos hz (mul-pos (mul-pos (let h : 0 < 1 = omega arith in h) ht) hs);
        cross = same (times (plus (times (plus (times (self a) (nat d)) (times (minus (self c)) (nat b))) (nat f)) (times (minus (self e)) (nat (b * d)))) (nat (b * ((1 * d) * f))))
            (times (plus (times (self a) (nat ((1 * d) * f))) (times (minus (plus (times (plus (times (nat 0) (nat d)) (times (self c) (nat 1))) (nat f)) (times (self e) (nat (1 * d))))) (nat b))) (nat ((b * d) * f)))
            (omega arith);
      }

less_none : (z : Fraction) → IsFraction z → SameFraction z (sum_of z (opposite_of (whole 0)))
less_none z h = record {
  left = h;
  right = mul-pos h (let g : 0 < 1 = omega arith in g);
  cross = same (times (self z.top) (nat (z.bottom * 1))) (times (plus (times (self z.top) (nat 1)) (times (minus (nat 0)) (nat z.bottom))) (nat z.bottom)) (omega arith);
}

more_none : (z : Fraction) → IsFraction z → SameFraction z (sum_of z (whole 0))
more_none z h = record {
  left = h;
  right = mul-pos h (let g : 0 < 1 = omega arith in g);
  cross = same (times (self z.top) (nat (z.bottom * 1))) (times (plus (times (self z.top) (nat 1)) (times (nat 0) (nat z.bottom))) (nat z.bottom)) (omega arith);
}

pub zero_fraction : IsFraction (whole 0)
zero_fraction = omega arith

pub one_fraction : IsFraction (whole 1)
one_fraction = omega arith

pub sum_onto_total : (z : Fraction) (ts : List Fraction) → IsFraction z → AllByRecursion IsFraction ts → SameFraction (sum_onto exactly z ts) (sum_of z (sum_onto exactly (whole 0) ts))
sum_onto_total z [] h k = more_none z h
sum_onto_total z (t ∷ ts) h k =
    let s = sum_onto exactly (whole 0) ts in
    let hs : IsFraction s = sum_onto_fraction (whole 0) ts zero_fraction k.1 in
    let e : SameFraction (sum_onto exactly (sum_of z t) ts) (sum_of (sum_of z t) s) = sum_onto_total (sum_of z t) ts (mul-pos h k.0) k.1 in
    let hz : IsFraction (sum_of (whole 0) t) = mul-pos zero_fraction k.0 in
    let g : SameFraction (sum_onto exactly (sum_of (whole 0) t) ts) (sum_of (sum_of (whole 0) t) s) = sum_onto_total (sum_of (whole 0) t) ts hz k.1 in
    same_trans e (same_trans (sum_assoc z h t k.0 s hs) (sum_same (same_refl z h) (same_sym (same_trans g (sum_same (zero_sum t k.0) (same_refl s hs))))))

pub less_all_total : (z : Fraction) (ts : List Fraction) → IsFraction z → AllByRecursion IsFraction ts → SameFraction (less_all exactly z ts) (sum_of z (opposite_of (sum_onto exactly (whole 0) ts)))
less_all_total z [] h k = less_none z h
less_all_total z (t ∷ ts) h k =
    let s = sum_onto exactly (whole 0) ts in
    let hs : IsFraction s = sum_onto_fraction (whole 0) ts zero_fraction k.1 in
    let hz : IsFraction (sum_of (whole 0) t) = mul-pos zero_fraction k.0 in
    let g : SameFraction (sum_onto exactly (sum_of (whole 0) t) ts) (sum_of (sum_of (whole 0) t) s) = sum_onto_total (sum_of (whole 0) t) ts hz k.1 in
    same_trans (less_all_total (sum_of z (opposite_of t)) ts (mul-pos h k.0) k.1)
    (same_trans (less_lem z t s h k.0 hs) (sum_same (same_refl z h) (opposite_same (same_sym g))))

-- ---- equal terms
pub less_map_same : {X : Type 0} (f g : X → Fraction) (xs : List X) (z z' : Fraction) → SameFraction z z' → AllByRecursion (λ x. SameFraction (f x) (g x)) xs
    → SameFraction (less_all exactly z (map f xs)) (less_all exactly z' (map g xs))
less_map_same f g [] z z' h k = h
less_map_same f g (x ∷ xs) z z' h k = less_map_same f g xs (sum_of z (opposite_of (f x))) (sum_of z' (opposite_of (g x))) (sum_same h (opposite_same k.0)) k.1

pub sum_map_same : {X : Type 0} (f g : X → Fraction) (xs : List X) (z z' : Fraction) → SameFraction z z' → AllByRecursion (λ x. SameFraction (f x) (g x)) xs
    → SameFraction (sum_onto exactly z (map f xs)) (sum_onto exactly z' (map g xs))
sum_map_same f g [] z z' h k = h
sum_map_same f g (x ∷ xs) z z' h k = sum_map_same f g xs (sum_of z (f x)) (sum_of z' (g x)) (sum_same h k.0) k.1

pub product_map_same : {X : Type 0} (f g : X → Fraction) (xs : List X) (z z' : Fraction) → SameFraction z z' → AllByRecursion (λ x. SameFraction (f x) (g x)) xs
    → SameFraction (fold product_of z (map f xs)) (fold product_of z' (map g xs))
product_map_same f g [] z z' h k = h
product_map_same f g (x ∷ xs) z z' h k = product_map_same f g xs (product_of z (f x)) (product_of z' (g x)) (product_same h k.0) k.1

-- s + 1 * (0 - s) is 0, and the other way round
module _ (s : Fraction) (hs : IsFraction s) where
  pub back_to_zero : SameFraction (sum_of s (product_of (whole 1) (sum_of (whole 0) (opposite_of s)))) (whole 0)
  back_to_zero =
      let e = s.top in let f = s.bottom in
      let one : 0 < 1 = omega arith in
      record {
        left = mul-pos hs (mul-pos one (mul-pos one hs));
        right = one;
        cross = same (times (plus (times (self e) (nat (1 * (1 * f)))) (times (times (nat 1) (plus (times (nat 0) (nat f)) (times (minus (self e)) (nat 1)))) (nat f))) (nat 1))
            (times (nat 0) (nat (f * (1 * (1 * f))))) (omega arith);
      }

  pub taken_over : (y : Fraction) → IsFraction y → SameFraction (sum_of s (product_of (whole 1) y)) (whole 0) → SameFraction y (sum_of (whole 0) (opposite_of s))
  taken_over y hy h =
      let e = s.top in let f = s.bottom in let c = y.top in let d = y.bottom in
      let one : 0 < 1 = omega arith in
      let k = out (times (plus (times (self e) (nat (1 * d))) (times (times (nat 1) (self c)) (nat f))) (nat 1)) (times (nat 0) (nat (f * (1 * d)))) h.cross in
      record {
        left = hy;
        right = mul-pos one hs;
        cross = same (times (self c) (nat (1 * f))) (times (plus (times (nat 0) (nat f)) (times (minus (self e)) (nat 1))) (nat d)) (omega (arith, k));
      }

-- w is a - r where w + r is a, in the written order, and the other way round
module _ (w a r : Fraction) (hw : IsFraction w) (ha : IsFraction a) (hr : IsFraction r) where
  abbrev added : Fraction
  added = sum_of (sum_of (whole 0) w) r

  abbrev left_over : Fraction
  left_over = sum_of (sum_of (whole 0) a) (opposite_of r)

  one_pos : 0 < 1
  one_pos = omega arith

  left_over_fraction : IsFraction left_over
  left_over_fraction = mul-pos (mul-pos one_pos ha) hr

  added_back : SameFraction (sum_of (sum_of (whole 0) left_over) r) a
  added_back =
      let e = a.top in let f = a.bottom in let c = r.top in let d = r.bottom in
      let lo = plus (times (plus (times (nat 0) (nat f)) (times (self e) (nat 1))) (nat d)) (times (minus (self c)) (nat (1 * f))) in
      let lb = (1 * f) * d in
      record {
        left = mul-pos (mul-pos one_pos left_over_fraction) hr;
        right = ha;
        cross = same (times (plus (times (plus (times (nat 0) (nat lb)) (times lo (nat 1))) (nat d)) (times (self c) (nat (1 * lb)))) (nat f))
            (times (self e) (nat ((1 * lb) * d))) (omega arith);
      }

  pub add_back : SameFraction w left_over → SameFraction added a
  add_back h = same_trans (sum_same (sum_same (same_refl (whole 0) one_pos) h) (same_refl r hr)) added_back

  taken_out : SameFraction (sum_of (sum_of (whole 0) added) (opposite_of r)) w
  taken_out =
      let e = w.top in let f = w.bottom in let c = r.top in let d = r.bottom in
      let lo = plus (times (plus (times (nat 0) (nat f)) (times (self e) (nat 1))) (nat d)) (times (self c) (nat (1 * f))) in
      let lb = (1 * f) * d in
      record {
        left = mul-pos (mul-pos one_pos (mul-pos (mul-pos one_pos hw) hr)) hr;
        right = hw;
        cross = same (times (plus (times (plus (times (nat 0) (nat lb)) (times lo (nat 1))) (nat d)) (times (minus (self c)) (nat (1 * lb)))) (nat f))
            (times (self e) (nat ((1 * lb) * d))) (omega arith);
      }

  pub take_out : SameFraction added a → SameFraction w left_over
  take_out h = same_trans (same_sym taken_out) (sum_same (sum_same (same_refl (whole 0) one_pos) h) (same_refl (opposite_of r) hr))
