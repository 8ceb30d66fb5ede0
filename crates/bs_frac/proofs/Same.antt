-- Equal fractions: an equivalence, which the operations keep, and the laws of a commutative ring up to it.
use Rattle.std.proofs.Common.{◌≡◌, ℕ, suc, zero, ◌+◌, ◌*◌, ◌<◌, ℤ, pos, negsuc, ◌*ℤ◌, neg_ℤ, arith, refl, sym, ◌∙◌, ap, ap₂, mul-pos}
use Rattle.std.proofs.Math.Nat.{eq_of_mul-eq-mul_left}
use Rattle.bs_frac.specs.Fraction.{Fraction, SameFraction, whole, sum_of, difference_of, product_of, opposite_of, turned_over, reciprocal_of, quotient_of}
use Rattle.bs_frac.proofs.Ring.{self, nat, plus, minus, times, same, out}
use borrow.Author.Differences.{up, down}

pub same_refl : (x : Fraction) → 0 < x.bottom → SameFraction x x
same_refl x h = record { left = h; right = h; cross = refl }

pub same_sym : {x y : Fraction} → SameFraction x y → SameFraction y x
same_sym h = record { left = h.right; right = h.left; cross = sym h.cross }

trans_lem : (p q b r s d u v e : ℕ) → 0 < d → p * d + s * b ≡ r * b + q * d → r * e + v * d ≡ u * d + s * e → p * e + v * b ≡ u * b + q * e
trans_lem p q b r s d u v e h k l =
    let k1 : (p * d + s * b) * e ≡ (r * b + q * d) * e = ap (λ n. n * e) k in
    let l1 : (r * e + v * d) * b ≡ (u * d + s * e) * b = ap (λ n. n * b) l in
    eq_of_mul-eq-mul_left d h _ _ (let g : d * (p * e + v * b) ≡ d * (u * b + q * e) = omega arith in g)

cross_trans : (a c f : ℤ) (b d e : ℕ) → 0 < d → a *ℤ pos d ≡ c *ℤ pos b → c *ℤ pos e ≡ f *ℤ pos d → a *ℤ pos e ≡ f *ℤ pos b
cross_trans a c f b d e h k l =
    let k' = out (times (self a) (nat d)) (times (self c) (nat b)) k in
    let l' = out (times (self c) (nat e)) (times (self f) (nat d)) l in
    same (times (self a) (nat e)) (times (self f) (nat b))
    (let g = trans_lem (up a) (down a) b (up c) (down c) d (up f) (down f) e h (omega (arith, k')) (omega (arith, l')) in omega (arith, g))

pub same_trans : {x y z : Fraction} → SameFraction x y → SameFraction y z → SameFraction x z
same_trans {x} {y} {z} h k = record { left = h.left; right = k.right; cross = cross_trans x.top y.top z.top x.bottom y.bottom z.bottom h.right h.cross k.cross }

-- ---- the operations keep it
sum_lem : (p q b p' q' b' r s d r' s' d' : ℕ) → p * b' + q' * b ≡ p' * b + q * b' → r * d' + s' * d ≡ r' * d + s * d'
    → (p * d + r * b) * (b' * d') + (q' * d' + s' * b') * (b * d) ≡ (p' * d' + r' * b') * (b * d) + (q * d + s * b) * (b' * d')
sum_lem p q b p' q' b' r s d r' s' d' k l =
    let k1 : (p * b' + q' * b) * (d * d') ≡ (p' * b + q * b') * (d * d') = ap (λ n. n * (d * d')) k in
    let l1 : (r * d' + s' * d) * (b * b') ≡ (r' * d + s * d') * (b * b') = ap (λ n. n * (b * b')) l in
    omega arith

pub sum_same : {x x' y y' : Fraction} → SameFraction x x' → SameFraction y y' → SameFraction (sum_of x y) (sum_of x' y')
sum_same {x} {x'} {y} {y'} h k =
    let a = x.top in let b = x.bottom in let a' = x'.top in let b' = x'.bottom in
    let c = y.top in let d = y.bottom in let c' = y'.top in let d' = y'.bottom in
    let h' = out (times (self a) (nat b')) (times (self a') (nat b)) h.cross in
    let k' = out (times (self c) (nat d')) (times (self c') (nat d)) k.cross in
    let g = sum_lem (up a) (down a) b (up a') (down a') b' (up c) (down c) d (up c') (down c') d' (omega (arith, h')) (omega (arith, k')) in
    record {
      left = mul-pos h.left k.left;
      right = mul-pos h.right k.right;
      cross = same (times (plus (times (self a) (nat d)) (times (self c) (nat b))) (nat (b' * d')))
          (times (plus (times (self a') (nat d')) (times (self c') (nat b'))) (nat (b * d))) (omega (arith, g));
    }

mul_swap : (a c : ℤ) (b d : ℕ) → (a *ℤ c) *ℤ pos (b * d) ≡ (a *ℤ pos b) *ℤ (c *ℤ pos d)
mul_swap a c b d = same (times (times (self a) (self c)) (nat (b * d))) (times (times (self a) (nat b)) (times (self c) (nat d))) (omega arith)

pub product_same : {x x' y y' : Fraction} → SameFraction x x' → SameFraction y y' → SameFraction (product_of x y) (product_of x' y')
product_same {x} {x'} {y} {y'} h k = record {
  left = mul-pos h.left k.left;
  right = mul-pos h.right k.right;
  cross = mul_swap x.top y.top x'.bottom y'.bottom ∙ ap₂ (λ (i j : ℤ). i *ℤ j) h.cross k.cross ∙ sym (mul_swap x'.top y'.top x.bottom y.bottom);
}

neg_out : (a : ℤ) (b : ℕ) → neg_ℤ a *ℤ pos b ≡ neg_ℤ (a *ℤ pos b)
neg_out a b = same (times (minus (self a)) (nat b)) (minus (times (self a) (nat b))) (omega arith)

pub opposite_same : {x x' : Fraction} → SameFraction x x' → SameFraction (opposite_of x) (opposite_of x')
opposite_same {x} {x'} h = record { left = h.left; right = h.right; cross = neg_out x.top x'.bottom ∙ ap neg_ℤ h.cross ∙ sym (neg_out x'.top x.bottom) }

-- ---- the reciprocal keeps equality
pub reciprocal_same : {x y : Fraction} → SameFraction x y → SameFraction (reciprocal_of x) (reciprocal_of y)
reciprocal_same {x} {y} h = go x.top x.bottom y.top y.bottom h.left h.right h.cross
  where
    go : (a : ℤ) (b : ℕ) (c : ℤ) (d : ℕ) → 0 < b → 0 < d → a *ℤ pos d ≡ c *ℤ pos b
        → SameFraction (turned_over a b) (turned_over c d)
    go (pos zero) b (pos zero) d hb hd e = same_refl (whole 0) (omega arith)
    go (pos zero) b (pos (suc n)) d hb hd e = absurd (let p : 0 < suc n * b = mul-pos (omega arith) hb in let k = out (times (nat 0) (nat d)) (times (nat (suc n)) (nat b)) e in omega arith)
    go (pos zero) b (negsuc n) d hb hd e = absurd (let p : 0 < suc n * b = mul-pos (omega arith) hb in let k = out (times (nat 0) (nat d)) (times (minus (nat (suc n))) (nat b)) e in omega arith)
    go (pos (suc m)) b (pos zero) d hb hd e = absurd (let p : 0 < suc m * d = mul-pos (omega arith) hd in let k = out (times (nat (suc m)) (nat d)) (times (nat 0) (nat b)) e in omega arith)
    go (pos (suc m)) b (pos (suc n)) d hb hd e = record {
      left = omega arith;
      right = omega arith;
      cross = let k = out (times (nat (suc m)) (nat d)) (times (nat (suc n)) (nat b)) e in same (times (nat b) (nat (suc n))) (times (nat d) (nat (suc m))) (omega (arith, k));
    }
    go (pos (suc m)) b (negsuc n) d hb hd e = absurd (let p : 0 < suc m * d = mul-pos (omega arith) hd in let k = out (times (nat (suc m)) (nat d)) (times (minus (nat (suc n))) (nat b)) e in omega arith)
    go (negsuc m) b (pos zero) d hb hd e = absurd (let p : 0 < suc m * d = mul-pos (omega arith) hd in let k = out (times (minus (nat (suc m))) (nat d)) (times (nat 0) (nat b)) e in omega arith)
    go (negsuc m) b (pos (suc n)) d hb hd e = absurd (let p : 0 < suc m * d = mul-pos (omega arith) hd in let k = out (times (minus (nat (suc m))) (nat d)) (times (nat (suc n)) (nat b)) e in omega arith)
    go (negsuc m) b (negsuc n) d hb hd e = record {
      left = omega arith;
      right = omega arith;
      cross = let k = out (times (minus (nat (suc m))) (nat d)) (times (minus (nat (suc n))) (nat b)) e in same (times (minus (nat b)) (nat (suc n))) (times (minus (nat d)) (nat (suc m))) (omega (arith, k));
    }

pub difference_same : {x x' y y' : Fraction} → SameFraction x x' → SameFraction y y' → SameFraction (difference_of x y) (difference_of x' y')
difference_same h k = sum_same h (opposite_same k)

pub quotient_same : {x x' y y' : Fraction} → SameFraction x x' → SameFraction y y' → SameFraction (quotient_of x y) (quotient_of x' y')
quotient_same h k = product_same h (reciprocal_same k)

-- ---- the laws
module _ (x : Fraction) (hx : 0 < x.bottom) where
  pub zero_sum : SameFraction (sum_of (whole 0) x) x
  zero_sum = record {
    left = omega arith;
    right = hx;
    cross = same (times (plus (times (nat 0) (nat x.bottom)) (times (self x.top) (nat 1))) (nat x.bottom)) (times (self x.top) (nat (1 * x.bottom))) (omega arith);
  }

  pub one_product : SameFraction (product_of (whole 1) x) x
  one_product = record {
    left = omega arith;
    right = hx;
    cross = same (times (times (nat 1) (self x.top)) (nat x.bottom)) (times (self x.top) (nat (1 * x.bottom))) (omega arith);
  }

  pub product_one : SameFraction (product_of x (whole 1)) x
  product_one = record {
    left = omega arith;
    right = hx;
    cross = same (times (times (self x.top) (nat 1)) (nat x.bottom)) (times (self x.top) (nat (x.bottom * 1))) (omega arith);
  }

  pub sum_opposite : SameFraction (sum_of x (opposite_of x)) (whole 0)
  sum_opposite = record {
    left = mul-pos hx hx;
    right = omega arith;
    cross = same (times (plus (times (self x.top) (nat x.bottom)) (times (minus (self x.top)) (nat x.bottom))) (nat 1)) (times (nat 0) (nat (x.bottom * x.bottom))) (omega arith);
  }

  module _ (y : Fraction) (hy : 0 < y.bottom) where
    pub sum_comm : SameFraction (sum_of x y) (sum_of y x)
    sum_comm = record {
      left = mul-pos hx hy;
      right = mul-pos hy hx;
      cross = same (times (plus (times (self x.top) (nat y.bottom)) (times (self y.top) (nat x.bottom))) (nat (y.bottom * x.bottom)))
          (times (plus (times (self y.top) (nat x.bottom)) (times (self x.top) (nat y.bottom))) (nat (x.bottom * y.bottom))) (omega arith);
    }

    module _ (z : Fraction) (hz : 0 < z.bottom) where
      pub sum_assoc : SameFraction (sum_of (sum_of x y) z) (sum_of x (sum_of y z))
      sum_assoc =
          let a = x.top in let b = x.bottom in let c = y.top in let d = y.bottom in let e = z.top in let f = z.bottom in
          record {
            left = mul-pos (mul-pos hx hy) hz;
            right = mul-pos hx (mul-pos hy hz);
            cross = same (times (plus (times (plus (times (self a) (nat d)) (times (self c) (nat b))) (nat f)) (times (self e) (nat (b * d)))) (nat (b * (d * f))))
                (times (plus (times (self a) (nat (d * f))) (times (plus (times (self c) (nat f)) (times (self e) (nat d))) (nat b))) (nat ((b * d) * f))) (omega arith);
          }
