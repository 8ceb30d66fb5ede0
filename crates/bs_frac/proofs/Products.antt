-- The checked product gives the reduced pair of the product.
use Rattle.std.proofs.Common.{◌≡◌, ℕ, suc, zero, ◌*◌, ◌/◌, ◌<◌, ℤ, pos, negsuc, ◌*ℤ◌, neg_ℤ, arith, refl, sym, ◌∙◌, ap, ap₂, subst, mul-pos}
use Rattle.std.proofs.Math.Nat.{dvd-mul_right, div-mul_cancel}
use Prim.Native.Nat.{◌∣◌}
use Rattle.std.proofs.lemmas.Int.{unsigned_abs-mul}
use Rattle.std.specs.Prelude.{unsigned_abs}
use Rattle.bs_frac.specs.Gcd.{gcd}
use Rattle.bs_frac.specs.Fraction.{Fraction, IsSame, IsReduced, whole, product_of, opposite_of, turned_over, reciprocal_of}
use Rattle.bs_frac.specs.Checked.{over, cross_gcd, product_top, product_bottom, product_reduced}
use Rattle.bs_frac.proofs.GcdLaws.{gcd-left, gcd-right, gcd-swap, gcd-one_of_dvd, gcd-product, gcd-quotients}
use Rattle.bs_frac.proofs.Reduced.{unsigned_abs-over, over_times, quotient_pos}
use Rattle.bs_frac.proofs.Ring.{self, nat, times, same}

quotient_divides : (n k : ℕ) → k ∣ n → (n / k) ∣ n
quotient_divides n k h = subst (λ m. (n / k) ∣ m) (div-mul_cancel k h) (dvd-mul_right (n / k) k)

-- a over g, b over h, where g divides a and h divides b
quotients_apart : (a b g h : ℕ) → gcd a b ≡ 1 → g ∣ a → h ∣ b → gcd (a / g) (b / h) ≡ 1
quotients_apart a b g h e k l =
    let e1 : gcd (a / g) b ≡ 1 = gcd-one_of_dvd a b (a / g) e (quotient_divides a g k) in
    let e2 : gcd b (a / g) ≡ 1 = gcd-swap b (a / g) ∙ e1 in
    gcd-swap (a / g) (b / h) ∙ gcd-one_of_dvd b (a / g) (b / h) e2 (quotient_divides b h l)

pub product_is_reduced : (x y : Fraction) → IsReduced x → IsReduced y → IsReduced (product_reduced x y)
unfolding product_top product_bottom cross_gcd
product_is_reduced x y rx ry =
    let a = unsigned_abs x.top in let b = x.bottom in let c = unsigned_abs y.top in let d = y.bottom in
    let g = gcd a d in let h = gcd c b in
    let gd : g ∣ d = gcd-right a d in let hb : h ∣ b = gcd-right c b in
    let ab : gcd (a / g) (b / h) ≡ 1 = quotients_apart a b g h rx.coprime (gcd-left a d) hb in
    let cd : gcd (c / h) (d / g) ≡ 1 = quotients_apart c d h g ry.coprime (gcd-left c b) gd in
    let ad : gcd (a / g) (d / g) ≡ 1 = gcd-quotients a d ry.positive in
    let cb : gcd (c / h) (b / h) ≡ 1 = gcd-quotients c b rx.positive in
    let left : gcd ((a / g) * (c / h)) (b / h) ≡ 1 = gcd-product (a / g) (c / h) (b / h) ab cb in
    let right : gcd ((a / g) * (c / h)) (d / g) ≡ 1 = gcd-product (a / g) (c / h) (d / g) ad cd in
    let all : gcd (b / h * (d / g)) ((a / g) * (c / h)) ≡ 1 = gcd-product (b / h) (d / g) ((a / g) * (c / h)) (gcd-swap (b / h) _ ∙ left) (gcd-swap (d / g) _ ∙ right) in
    let top : unsigned_abs (over x.top g *ℤ over y.top h) ≡ (a / g) * (c / h) = unsigned_abs-mul (over x.top g) (over y.top h) ∙ ap₂ (λ m n. m * n) (unsigned_abs-over x.top g) (unsigned_abs-over y.top h) in
    record {
      positive = mul-pos (quotient_pos b h hb rx.positive) (quotient_pos d g gd ry.positive);
      coprime = ap (λ n. gcd n (b / h * (d / g))) top ∙ gcd-swap ((a / g) * (c / h)) (b / h * (d / g)) ∙ all;
    }

product_lem : (A C a c : ℤ) (B D b d g h : ℕ) → A *ℤ pos g ≡ a → C *ℤ pos h ≡ c → B * h ≡ b → D * g ≡ d
    → (A *ℤ C) *ℤ pos (b * d) ≡ (a *ℤ c) *ℤ pos (B * D)
product_lem A C a c B D b d g h ea ec eb ed =
    ap₂ (λ i j. (A *ℤ C) *ℤ pos (i * j)) (sym eb) (sym ed)
    ∙ same (times (times (self A) (self C)) (nat ((B * h) * (D * g)))) (times (times (times (self A) (nat g)) (times (self C) (nat h))) (nat (B * D))) (omega arith)
    ∙ ap₂ (λ (i j : ℤ). (i *ℤ j) *ℤ pos (B * D)) ea ec

pub product_is_same : (x y : Fraction) → IsReduced x → IsReduced y → IsSame (product_reduced x y) (product_of x y)
unfolding product_top product_bottom cross_gcd
product_is_same x y rx ry =
    let a = unsigned_abs x.top in let b = x.bottom in let c = unsigned_abs y.top in let d = y.bottom in
    let g = gcd a d in let h = gcd c b in
    product_lem (over x.top g) (over y.top h) x.top y.top (b / h) (d / g) b d g h
    (over_times x.top g (gcd-left a d)) (over_times y.top h (gcd-left c b)) (div-mul_cancel h (gcd-right c b)) (div-mul_cancel g (gcd-right a d))

pub abs_neg : (z : ℤ) → unsigned_abs (neg_ℤ z) ≡ unsigned_abs z
abs_neg (pos zero) = refl
abs_neg (pos (suc n)) = refl
abs_neg (negsuc n) = refl

pub opposite_is_reduced : (x : Fraction) → IsReduced x → IsReduced (opposite_of x)
opposite_is_reduced x r = record { positive = r.positive; coprime = ap (λ n. gcd n x.bottom) (abs_neg x.top) ∙ r.coprime }

pub one_reduced : IsReduced (whole 1)
unfolding gcd
one_reduced = record { positive = omega arith; coprime = refl }

pub zero_reduced : IsReduced (whole 0)
unfolding gcd
zero_reduced = record { positive = omega arith; coprime = refl }

pub reciprocal_is_reduced : (x : Fraction) → IsReduced x → IsReduced (reciprocal_of x)
reciprocal_is_reduced x r = turned x.top x.bottom r.positive r.coprime
  where
    turned : (z : ℤ) (d : ℕ) → 0 < d → gcd (unsigned_abs z) d ≡ 1 → IsReduced (turned_over z d)
    turned (pos zero) d p e = zero_reduced
    turned (pos (suc n)) d p e = record { positive = omega arith; coprime = gcd-swap d (suc n) ∙ e }
    turned (negsuc n) d p e = record { positive = omega arith; coprime = ap (λ m. gcd m (suc n)) (abs_neg (pos d)) ∙ gcd-swap d (suc n) ∙ e }
