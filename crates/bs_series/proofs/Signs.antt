-- Signs come out of exact and of checked products and differences.
use Rattle.std.proofs.Common.{◌≡◌, ℕ, suc, zero, ◌*◌, ◌/◌, ℤ, pos, negsuc, neg_ℤ, ◌+ℤ◌, ◌*ℤ◌, Option, Some, None, option_map, Bool, true, false, cond, ◌&&◌, arith, refl, sym, ◌∙◌, ap, ap₂, unsigned_abs}
use Rattle.bs_frac.specs.Fraction.{Fraction, sum_of, opposite_of}
use Rattle.bs_frac.specs.Written.{exactly, checked, strict}
use Rattle.bs_frac.specs.Checked.{is_small, checked_sum, checked_product, sum_reduced, sum_gcd, sum_left, sum_right, sum_top, sum_common, sum_bottom, cross_gcd, product_top, product_bottom, product_reduced, over, checked_difference}
use Rattle.bs_frac.specs.Gcd.{gcd}
use Rattle.bs_frac.proofs.Ring.{self, plus, minus, times, same}
use Rattle.bs_frac.proofs.Products.{abs_neg}
use Rattle.bs_series.proofs.Adjoint.{HasSigns}
use Rattle.std.proofs.Math.Nat.{zero-div}
use Rattle.bs_frac.specs.Written.{coef_of, opposite_coef}
use Rattle.bs_frac.specs.declared.coef.Coef.{Coef}
use Rattle.bs_frac.specs.declared.coef.Coef.TheVariants.{Value, Overflow}

abbrev frac : ℤ → ℕ → Fraction
frac t b = record { top = t; bottom = b }

neg_left : (a c : ℤ) → neg_ℤ a *ℤ c ≡ neg_ℤ (a *ℤ c)
neg_left a c = same (times (minus (self a)) (self c)) (minus (times (self a) (self c))) (omega arith)

neg_right : (a c : ℤ) → a *ℤ neg_ℤ c ≡ neg_ℤ (a *ℤ c)
neg_right a c = same (times (self a) (minus (self c))) (minus (times (self a) (self c))) (omega arith)

neg_sum : (a c : ℤ) → neg_ℤ a +ℤ neg_ℤ c ≡ neg_ℤ (a +ℤ c)
neg_sum a c = same (plus (minus (self a)) (minus (self c))) (minus (plus (self a) (self c))) (omega arith)

neg_neg : (a : ℤ) → neg_ℤ (neg_ℤ a) ≡ a
neg_neg a = same (minus (minus (self a))) (self a) (omega arith)

sum_opposites : (x y : Fraction) → sum_of (opposite_of x) (opposite_of y) ≡ opposite_of (sum_of x y)
sum_opposites x y = ap (λ t. frac t (x.bottom * y.bottom)) (ap₂ (λ i j. i +ℤ j) (neg_left x.top (pos y.bottom)) (neg_left y.top (pos x.bottom)) ∙ neg_sum (x.top *ℤ pos y.bottom) (y.top *ℤ pos x.bottom))

pub exact_signs : HasSigns exactly
exact_signs = record {
  zero_stays = refl;
  product_left = λ x y. ap (λ t. frac t (x.bottom * y.bottom)) (neg_left x.top y.top);
  product_right = λ x y. ap (λ t. frac t (x.bottom * y.bottom)) (neg_right x.top y.top);
  difference = λ x y. sum_opposites x (opposite_of y);
}

-- ---- checked
over_neg : (z : ℤ) (k : ℕ) → over (neg_ℤ z) k ≡ neg_ℤ (over z k)
over_neg (pos zero) k = let e : zero / k ≡ 0 = zero-div k in rw e refl
over_neg (pos (suc n)) k = refl
over_neg (negsuc n) k = sym (neg_neg (pos (suc n / k)))

cond_same : (b c : Bool) (x y : Fraction) → b ≡ c → x ≡ opposite_of y → cond b (Some x) None ≡ option_map opposite_of (cond c (Some y) None)
cond_same b c x y e h = ap₂ (λ i v. cond i (Some v) None) e h ∙ go c
  where
    go : (c : Bool) → cond c (Some (opposite_of y)) None ≡ option_map opposite_of (cond c (Some y) None)
    go true = refl
    go false = refl

small_neg : (s t : ℤ) → s ≡ neg_ℤ t → is_small (unsigned_abs s) ≡ is_small (unsigned_abs t)
small_neg s t e = ap (λ z. is_small (unsigned_abs z)) e ∙ ap is_small (abs_neg t)

product_neg : (x y x' y' : Fraction) → unsigned_abs x'.top ≡ unsigned_abs x.top → unsigned_abs y'.top ≡ unsigned_abs y.top → x'.bottom ≡ x.bottom → y'.bottom ≡ y.bottom
    → product_top x' y' ≡ neg_ℤ (product_top x y) → checked_product x' y' ≡ option_map opposite_of (checked_product x y)
unfolding product_bottom cross_gcd
product_neg x y x' y' ex ey bx by e =
    let g1 : cross_gcd x' y' ≡ cross_gcd x y = ap₂ gcd ex by in
    let g2 : cross_gcd y' x' ≡ cross_gcd y x = ap₂ gcd ey bx in
    let b : product_bottom x' y' ≡ product_bottom x y = ap₂ (λ i j. i * j) (ap₂ (λ i j. i / j) bx g2) (ap₂ (λ i j. i / j) by g1) in
    cond_same _ _ (product_reduced x' y') (product_reduced x y)
    (ap₂ (λ i j. i && j) (small_neg (product_top x' y') (product_top x y) e) (ap is_small b))
    (ap₂ frac e b)

product_opposite_left : (x y : Fraction) → checked_product (opposite_of x) y ≡ option_map opposite_of (checked_product x y)
unfolding product_top cross_gcd
product_opposite_left x y = product_neg x y (opposite_of x) y (abs_neg x.top) refl refl refl
    (ap (λ i. over (neg_ℤ x.top) (gcd i y.bottom) *ℤ over y.top (cross_gcd y x)) (abs_neg x.top) ∙ ap (λ (j : ℤ). j *ℤ over y.top (cross_gcd y x)) (over_neg x.top (cross_gcd x y)) ∙ neg_left (over x.top (cross_gcd x y)) (over y.top (cross_gcd y x)))

product_opposite_right : (x y : Fraction) → checked_product x (opposite_of y) ≡ option_map opposite_of (checked_product x y)
unfolding product_top cross_gcd
product_opposite_right x y = product_neg x y x (opposite_of y) refl (abs_neg y.top) refl refl
    (ap (λ i. over x.top (cross_gcd x y) *ℤ over (neg_ℤ y.top) (gcd i x.bottom)) (abs_neg y.top) ∙ ap (λ (j : ℤ). over x.top (cross_gcd x y) *ℤ j) (over_neg y.top (cross_gcd y x)) ∙ neg_right (over x.top (cross_gcd x y)) (over y.top (cross_gcd y x)))

sum_opposite_both : (x y : Fraction) → checked_sum (opposite_of x) (opposite_of y) ≡ option_map opposite_of (checked_sum x y)
unfolding sum_left sum_right sum_top sum_common sum_bottom sum_gcd
sum_opposite_both x y =
    let x' = opposite_of x in let y' = opposite_of y in
    let l : sum_left x' y' ≡ neg_ℤ (sum_left x y) = neg_left x.top (pos (y.bottom / sum_gcd x y)) in
    let r : sum_right x' y' ≡ neg_ℤ (sum_right x y) = neg_left y.top (pos (x.bottom / sum_gcd x y)) in
    let t : sum_top x' y' ≡ neg_ℤ (sum_top x y) = ap₂ (λ i j. i +ℤ j) l r ∙ neg_sum (sum_left x y) (sum_right x y) in
    let c : sum_common x' y' ≡ sum_common x y = ap (λ i. gcd (unsigned_abs i) (sum_gcd x y)) t ∙ ap (λ i. gcd i (sum_gcd x y)) (abs_neg (sum_top x y)) in
    let b : sum_bottom x' y' ≡ sum_bottom x y = ap (λ i. x.bottom / sum_gcd x y * (y.bottom / i)) c in
    cond_same _ _ (sum_reduced x' y') (sum_reduced x y)
    (ap₂ (λ i j. i && j) (ap₂ (λ i j. i && j) (ap₂ (λ i j. i && j) (small_neg (sum_left x' y') (sum_left x y) l) (small_neg (sum_right x' y') (sum_right x y) r)) (small_neg (sum_top x' y') (sum_top x y) t)) (ap is_small b))
    (ap₂ frac (ap₂ over t c ∙ over_neg (sum_top x y) (sum_common x y)) b)

opposite_of_coef : (o : Option Fraction) → coef_of (option_map opposite_of o) ≡ opposite_coef (coef_of o)
opposite_of_coef None = refl
opposite_of_coef (Some x) = refl

pub checked_signs : HasSigns checked
checked_signs = record { zero_stays = refl; product_left = left; product_right = right; difference = both }
  where
    left : (x y : Coef) → strict checked_product (opposite_coef x) y ≡ opposite_coef (strict checked_product x y)
    left Overflow y = refl
    left (Value x) Overflow = refl
    left (Value x) (Value y) = ap coef_of (product_opposite_left x y) ∙ opposite_of_coef (checked_product x y)

    right : (x y : Coef) → strict checked_product x (opposite_coef y) ≡ opposite_coef (strict checked_product x y)
    right Overflow y = refl
    right (Value x) Overflow = refl
    right (Value x) (Value y) = ap coef_of (product_opposite_right x y) ∙ opposite_of_coef (checked_product x y)

    both : (x y : Coef) → strict checked_difference (opposite_coef x) (opposite_coef y) ≡ opposite_coef (strict checked_difference x y)
    both Overflow y = refl
    both (Value x) Overflow = refl
    both (Value x) (Value y) = ap coef_of (sum_opposite_both x (opposite_of y)) ∙ opposite_of_coef (checked_sum x (opposite_of y))
