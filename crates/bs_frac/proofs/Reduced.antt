-- The checked operations give the reduced pair of the sum and of the product.
use Rattle.std.proofs.Common.{◌≡◌, ℕ, suc, ◌+◌, ◌-◌, ◌*◌, ◌/◌, ◌≤◌, ◌<◌, ◌⊎◌, ℤ, pos, negsuc, ◌+ℤ◌, ◌*ℤ◌, arith, refl, sym, ◌∙◌, ap, ap₂, subst, inl, inr}
use Rattle.std.proofs.Math.Nat.{dvd-mul_left, dvd-mul_right, dvd-add, dvd-sub, div-mul_cancel, mul-pos, dvd-mul_left_of_dvd, eq-one_of_dvd-one, div-eq_of_eq-mul_left}
use Prim.Native.Nat.{◌∣◌}
use Rattle.std.proofs.lemmas.Int.{ints, unsigned_abs-mul}
use Rattle.std.proofs.lemmas.Nat.Gcd.{dvd_trans, dvd_refl}
use Rattle.std.proofs.lemmas.Bool.{cases_lt}
use Rattle.std.specs.Prelude.{unsigned_abs}
use Rattle.bs_frac.specs.Gcd.{gcd}
use Rattle.bs_frac.specs.Fraction.{Fraction, IsSame, IsReduced, sum_of}
use Rattle.bs_frac.specs.Checked.{over, sum_gcd, sum_left, sum_right, sum_top, sum_common, sum_bottom, sum_reduced}
use Rattle.bs_frac.proofs.GcdLaws.{gcd-left, gcd-right, gcd-greatest, gcd-swap, gcd-pos, dvd_other, gcd-one_of_dvd, gcd-product, gcd-quotients}
use Rattle.bs_frac.proofs.Ring.{self, nat, plus, minus, times, same}

-- ---- divisors of a sum of whole numbers
abs_cases : (x y : ℤ) → (unsigned_abs x ≡ unsigned_abs (x +ℤ y) + unsigned_abs y) ⊎ ((unsigned_abs x ≡ unsigned_abs (x +ℤ y) - unsigned_abs y) ⊎ (unsigned_abs x ≡ unsigned_abs y - unsigned_abs (x +ℤ y)))
abs_cases (pos m) (pos n) = inr (inl (omega arith))
abs_cases (negsuc m) (negsuc n) = inr (inl (omega arith))
abs_cases (pos m) (negsuc n) = elim (cases_lt m (suc n)) [ inl p ↦ inr (inr (omega (arith, ints))) | inr p ↦ inl (omega (arith, ints)) ]
abs_cases (negsuc m) (pos n) = elim (cases_lt (suc m) n) [ inl p ↦ inr (inr (omega (arith, ints))) | inr p ↦ inl (omega (arith, ints)) ]

dvd_first : (e : ℕ) (x y : ℤ) → e ∣ unsigned_abs (x +ℤ y) → e ∣ unsigned_abs y → e ∣ unsigned_abs x
dvd_first e x y h k =
    elim (abs_cases x y) [
      | inl p ↦ subst (λ n. e ∣ n) (sym p) (dvd-add e h k)
      | inr q ↦ elim q [
        | inl p ↦ subst (λ n. e ∣ n) (sym p) (dvd-sub e h k)
        | inr p ↦ subst (λ n. e ∣ n) (sym p) (dvd-sub e k h)
      ]
    ]

-- a/b + c/d, where b = b'g and d = d'g: the top shares nothing with b'
apart : (a c : ℤ) (b' d' : ℕ) → gcd (unsigned_abs a) b' ≡ 1 → gcd b' d' ≡ 1 → gcd (unsigned_abs (a *ℤ pos d' +ℤ c *ℤ pos b')) b' ≡ 1
apart a c b' d' h k =
    let s = a *ℤ pos d' +ℤ c *ℤ pos b' in
    let e = gcd (unsigned_abs s) b' in
    let eb : e ∣ b' = gcd-right (unsigned_abs s) b' in
    let es : e ∣ unsigned_abs s = gcd-left (unsigned_abs s) b' in
    let ec : e ∣ unsigned_abs (c *ℤ pos b') = subst (λ n. e ∣ n) (sym (unsigned_abs-mul c (pos b'))) (dvd-mul_left_of_dvd e eb (unsigned_abs c)) in
    let ea : e ∣ unsigned_abs a * d' = subst (λ n. e ∣ n) (unsigned_abs-mul a (pos d')) (dvd_first e (a *ℤ pos d') (c *ℤ pos b') es ec) in
    let ga : gcd e (unsigned_abs a) ≡ 1 = gcd-one_of_dvd b' (unsigned_abs a) e (gcd-swap b' (unsigned_abs a) ∙ h) eb in
    let ed : e ∣ d' = dvd_other e (unsigned_abs a) d' ga ea in
    let e1 : gcd e d' ≡ 1 = gcd-one_of_dvd b' d' e k eb in
    let ee : e ∣ gcd e d' = gcd-greatest e d' e (dvd_refl e) ed in
    eq-one_of_dvd-one (subst (λ n. e ∣ n) e1 ee)

-- the number that is left of the top, and what is left of the common divisor
common_out : (s g : ℕ) → 0 < g → gcd (s / gcd s g) (g / gcd s g) ≡ 1
common_out s g h = gcd-quotients s g h

pub record Split (b d g b' d' : ℕ) : Type 0 where
  pub first : b ≡ b' * g
  pub second : d ≡ d' * g
  pub coprime : gcd b' d' ≡ 1
  pub positive : 0 < g

-- a / b + c / d, with b = b'g and d = d'g, is reduced by h = gcd s g
pub sum_coprime : (a c : ℤ) (b d g b' d' : ℕ) → Split b d g b' d' → gcd (unsigned_abs a) b ≡ 1 → gcd (unsigned_abs c) d ≡ 1
    → let s = unsigned_abs (a *ℤ pos d' +ℤ c *ℤ pos b') in gcd (s / gcd s g) (b' * (d / gcd s g)) ≡ 1
sum_coprime a c b d g b' d' p ra rc =
    let z = a *ℤ pos d' +ℤ c *ℤ pos b' in
    let s = unsigned_abs z in
    let h = gcd s g in
    let hp : 0 < h = gcd-pos s g p.positive in
    let b'b : b' ∣ b = subst (λ n. b' ∣ n) (sym p.first) (dvd-mul_right b' g) in
    let d'd : d' ∣ d = subst (λ n. d' ∣ n) (sym p.second) (dvd-mul_right d' g) in
    let ab : gcd (unsigned_abs a) b' ≡ 1 = gcd-swap (unsigned_abs a) b' ∙ gcd-one_of_dvd b (unsigned_abs a) b' (gcd-swap b (unsigned_abs a) ∙ ra) b'b in
    let cd : gcd (unsigned_abs c) d' ≡ 1 = gcd-swap (unsigned_abs c) d' ∙ gcd-one_of_dvd d (unsigned_abs c) d' (gcd-swap d (unsigned_abs c) ∙ rc) d'd in
    let sb : gcd s b' ≡ 1 = apart a c b' d' ab p.coprime in
    let turned : c *ℤ pos b' +ℤ a *ℤ pos d' ≡ z = omega (arith, ints) in
    let sd : gcd s d' ≡ 1 = ap (λ (x : ℤ). gcd (unsigned_abs x) d') (sym turned) ∙ apart c a d' b' cd (gcd-swap d' b' ∙ p.coprime) in
    let small : s / h ∣ s = subst (λ n. s / h ∣ n) (div-mul_cancel h (gcd-left s g)) (dvd-mul_right (s / h) h) in
    let qb : gcd (s / h) b' ≡ 1 = gcd-one_of_dvd s b' (s / h) sb small in
    let qd : gcd (s / h) d' ≡ 1 = gcd-one_of_dvd s d' (s / h) sd small in
    let qg : gcd (s / h) (g / h) ≡ 1 = gcd-quotients s g p.positive in
    let rest : d / h ≡ d' * (g / h) = div-eq_of_eq-mul_left hp (p.second ∙ ap (λ n. d' * n) (sym (div-mul_cancel h (gcd-right s g))) ∙ omega arith) in
    let right : gcd (d' * (g / h)) (s / h) ≡ 1 = gcd-product d' (g / h) (s / h) (gcd-swap d' (s / h) ∙ qd) (gcd-swap (g / h) (s / h) ∙ qg) in
    let all : gcd (b' * (d' * (g / h))) (s / h) ≡ 1 = gcd-product b' (d' * (g / h)) (s / h) (gcd-swap b' (s / h) ∙ qb) right in
    gcd-swap (s / h) (b' * (d / h)) ∙ ap (λ n. gcd (b' * n) (s / h)) rest ∙ all

-- ---- a quotient by a divisor
pub unsigned_abs-over : (z : ℤ) (k : ℕ) → unsigned_abs (over z k) ≡ unsigned_abs z / k
unsigned_abs-over (pos n) k = refl
unsigned_abs-over (negsuc n) k = omega (arith, ints)

pub over_times : (z : ℤ) (k : ℕ) → k ∣ unsigned_abs z → over z k *ℤ pos k ≡ z
over_times (pos n) k h = ap pos (div-mul_cancel k h)
over_times (negsuc n) k h =
    let e : suc n / k * k ≡ suc n = div-mul_cancel k h in
    same (times (minus (nat (suc n / k))) (nat k)) (self (negsuc n)) (omega arith)

split_sum : (x y : Fraction) → IsReduced x → IsReduced y → Split x.bottom y.bottom (sum_gcd x y) (x.bottom / sum_gcd x y) (y.bottom / sum_gcd x y)
unfolding sum_gcd
split_sum x y rx ry =
    let g = gcd x.bottom y.bottom in
    record {
      first = sym (div-mul_cancel g (gcd-left x.bottom y.bottom));
      second = sym (div-mul_cancel g (gcd-right x.bottom y.bottom));
      coprime = gcd-quotients x.bottom y.bottom ry.positive;
      positive = gcd-pos x.bottom y.bottom ry.positive;
    }

pub quotient_pos : (n k : ℕ) → k ∣ n → 0 < n → 0 < n / k
quotient_pos n k h p = let e = div-mul_cancel k h in elim (cases_lt 0 (n / k)) [ inl q ↦ q | inr q ↦ absurd (by (n / k) e q) ]
  where
    by : (m : ℕ) → m * k ≡ n → m ≤ 0 → ⊥
    by m e q = let z : m ≡ 0 = omega arith in let f : 0 * k ≡ n = subst (λ i. i * k ≡ n) z e in omega arith

pub sum_is_reduced : (x y : Fraction) → IsReduced x → IsReduced y → IsReduced (sum_reduced x y)
unfolding sum_common sum_top sum_left sum_right sum_bottom
sum_is_reduced x y rx ry =
    let g = sum_gcd x y in
    let p = split_sum x y rx ry in
    let h = sum_common x y in
    let hg : h ∣ g = gcd-right (unsigned_abs (sum_top x y)) g in
    let gx : g ∣ x.bottom = subst (λ n. g ∣ n) (sym p.first) (dvd-mul_left g (x.bottom / g)) in
    let gy : g ∣ y.bottom = subst (λ n. g ∣ n) (sym p.second) (dvd-mul_left g (y.bottom / g)) in
    record {
      positive = mul-pos (quotient_pos x.bottom g gx rx.positive) (quotient_pos y.bottom h (dvd_trans h hg gy) ry.positive);
      coprime = ap (λ n. gcd n (sum_bottom x y)) (unsigned_abs-over (sum_top x y) h)
          ∙ sum_coprime x.top y.top x.bottom y.bottom g (x.bottom / g) (y.bottom / g) p rx.coprime ry.coprime;
    }

same_lem : (w a c : ℤ) (b d g b' d' h e : ℕ) → b ≡ b' * g → d ≡ d' * g → d ≡ e * h → w *ℤ pos h ≡ a *ℤ pos d' +ℤ c *ℤ pos b'
    → w *ℤ pos (b * d) ≡ (a *ℤ pos d +ℤ c *ℤ pos b) *ℤ pos (b' * e)
same_lem w a c b d g b' d' h e pb pd pe ps =
    let m = g * b' * e in
    let z = a *ℤ pos d' +ℤ c *ℤ pos b' in
    let left : b * d ≡ h * m = ap₂ (λ (i j : ℕ). i * j) pb pe ∙ omega arith in
    let e1 : w *ℤ pos (h * m) ≡ (w *ℤ pos h) *ℤ pos m = same (times (self w) (nat (h * m))) (times (times (self w) (nat h)) (nat m)) (omega arith) in
    let e3 : z *ℤ pos m ≡ (a *ℤ pos (d' * g) +ℤ c *ℤ pos (b' * g)) *ℤ pos (b' * e) =
    same (times (plus (times (self a) (nat d')) (times (self c) (nat b'))) (nat m))
    (times (plus (times (self a) (nat (d' * g))) (times (self c) (nat (b' * g)))) (nat (b' * e))) (omega arith) in
    ap (λ n. w *ℤ pos n) left ∙ e1 ∙ ap (λ (i : ℤ). i *ℤ pos m) ps ∙ e3
    ∙ ap₂ (λ (i j : ℕ). (a *ℤ pos i +ℤ c *ℤ pos j) *ℤ pos (b' * e)) (sym pd) (sym pb)

pub sum_is_same : (x y : Fraction) → IsReduced x → IsReduced y → IsSame (sum_reduced x y) (sum_of x y)
unfolding sum_common sum_top sum_left sum_right sum_bottom
sum_is_same x y rx ry =
    let g = sum_gcd x y in
    let p = split_sum x y rx ry in
    let h = sum_common x y in
    let hg : h ∣ g = gcd-right (unsigned_abs (sum_top x y)) g in
    let gy : g ∣ y.bottom = subst (λ n. g ∣ n) (sym p.second) (dvd-mul_left g (y.bottom / g)) in
    same_lem (over (sum_top x y) h) x.top y.top x.bottom y.bottom g (x.bottom / g) (y.bottom / g) h (y.bottom / h)
    p.first p.second (sym (div-mul_cancel h (dvd_trans h hg gy)))
    (over_times (sum_top x y) h (gcd-left (unsigned_abs (sum_top x y)) g))

-- (a/g)(c/h) over (b/h)(d/g) is reduced, where g = gcd a d and h = gcd c b
pub product_coprime : (a b c d : ℕ) → 0 < b → 0 < d → gcd a b ≡ 1 → gcd c d ≡ 1
    → let g = gcd a d in let h = gcd c b in gcd ((a / g) * (c / h)) ((b / h) * (d / g)) ≡ 1
product_coprime a b c d pb pd r s =
    let g = gcd a d in
    let h = gcd c b in
    let ag : a / g ∣ a = subst (λ n. a / g ∣ n) (div-mul_cancel g (gcd-left a d)) (dvd-mul_right (a / g) g) in
    let dg : d / g ∣ d = subst (λ n. d / g ∣ n) (div-mul_cancel g (gcd-right a d)) (dvd-mul_right (d / g) g) in
    let ch : c / h ∣ c = subst (λ n. c / h ∣ n) (div-mul_cancel h (gcd-left c b)) (dvd-mul_right (c / h) h) in
    let bh : b / h ∣ b = subst (λ n. b / h ∣ n) (div-mul_cancel h (gcd-right c b)) (dvd-mul_right (b / h) h) in
    let ad : gcd (a / g) (d / g) ≡ 1 = gcd-quotients a d pd in
    let cb : gcd (c / h) (b / h) ≡ 1 = gcd-quotients c b pb in
    let ab : gcd (a / g) (b / h) ≡ 1 = both_dvd a b (a / g) (b / h) r ag bh in
    let cd : gcd (c / h) (d / g) ≡ 1 = both_dvd c d (c / h) (d / g) s ch dg in
    let top_b : gcd ((a / g) * (c / h)) (b / h) ≡ 1 = gcd-product (a / g) (c / h) (b / h) ab cb in
    let top_d : gcd ((a / g) * (c / h)) (d / g) ≡ 1 = gcd-product (a / g) (c / h) (d / g) ad cd in
    gcd-swap ((a / g) * (c / h)) ((b / h) * (d / g)) ∙ gcd-product (b / h) (d / g) ((a / g) * (c / h)) (gcd-swap (b / h) _ ∙ top_b) (gcd-swap (d / g) _ ∙ top_d)
  where
    both_dvd : (m n i j : ℕ) → gcd m n ≡ 1 → i ∣ m → j ∣ n → gcd i j ≡ 1
    both_dvd m n i j e x y = let f = gcd-one_of_dvd m n i e x in gcd-swap i j ∙ gcd-one_of_dvd n i j (gcd-swap n i ∙ f) y
