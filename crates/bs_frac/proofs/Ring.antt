-- Laws of whole numbers: each is read as a difference of two natural numbers, and `omega` multiplies products out.
use Rattle.std.proofs.Common.{◌≡◌, ℕ, ◌+◌, ◌*◌, ℤ, pos, ◌+ℤ◌, ◌*ℤ◌, neg_ℤ, arith, refl, ap}
use borrow.Author.Differences.{up, down, sum_is_lem, neg_is, product_is, same_in}

-- z is p - q
pub record IsDiff (z : ℤ) (p q : ℕ) : Type 0 where
  pub diff : up z + q ≡ p + down z

pub self : (z : ℤ) → IsDiff z (up z) (down z)
self z = record { diff = refl }

pub nat : (n : ℕ) → IsDiff (pos n) n 0
nat n = record { diff = refl }

pub plus : {a b : ℤ} {p q r s : ℕ} → IsDiff a p q → IsDiff b r s → IsDiff (a +ℤ b) (p + r) (q + s)
plus {a} {b} x y = record { diff = omega (arith, sum_is_lem a b, x.diff, y.diff) }

pub minus : {a : ℤ} {p q : ℕ} → IsDiff a p q → IsDiff (neg_ℤ a) q p
minus {a} x = record { diff = omega (arith, neg_is a, x.diff) }

-- (p - q) (r - s)
times_lem : (a b c d p q r s : ℕ) → a + q ≡ p + b → c + s ≡ r + d → (a * c + b * d) + (p * s + q * r) ≡ (p * r + q * s) + (a * d + b * c)
times_lem a b c d p q r s x y =
    let x1 : (a + q) * c ≡ (p + b) * c = ap (λ n. n * c) x in
    let x2 : (a + q) * d ≡ (p + b) * d = ap (λ n. n * d) x in
    let y1 : p * (c + s) ≡ p * (r + d) = ap (λ n. p * n) y in
    let y2 : q * (c + s) ≡ q * (r + d) = ap (λ n. q * n) y in
    omega arith

pub times : {a b : ℤ} {p q r s : ℕ} → IsDiff a p q → IsDiff b r s → IsDiff (a *ℤ b) (p * r + q * s) (p * s + q * r)
times {a} {b} {p} {q} {r} {s} x y = record { diff = omega (arith, product_is a b, times_lem (up a) (down a) (up b) (down b) p q r s x.diff y.diff) }

pub same : {a b : ℤ} {p q r s : ℕ} → IsDiff a p q → IsDiff b r s → p + s ≡ r + q → a ≡ b
same {a} {b} x y e = same_in a b (omega (arith, x.diff, y.diff))

pub out : {a b : ℤ} {p q r s : ℕ} → IsDiff a p q → IsDiff b r s → a ≡ b → p + s ≡ r + q
out {a} {b} x y e = omega (arith, x.diff, y.diff, ap up e, ap down e)

pub mul_ℤ_assoc : (a b c : ℤ) → (a *ℤ b) *ℤ c ≡ a *ℤ (b *ℤ c)
mul_ℤ_assoc a b c = same (times (times (self a) (self b)) (self c)) (times (self a) (times (self b) (self c))) (omega arith)

pub mul_ℤ-add : (a b c : ℤ) → a *ℤ (b +ℤ c) ≡ a *ℤ b +ℤ a *ℤ c
mul_ℤ-add a b c = same (times (self a) (plus (self b) (self c))) (plus (times (self a) (self b)) (times (self a) (self c))) (omega arith)

-- the sum of fractions is associative (top)
pub sum_assoc_top : (a c e : ℤ) (b d f : ℕ) → (a *ℤ pos d +ℤ c *ℤ pos b) *ℤ pos f +ℤ e *ℤ pos (b * d) ≡ a *ℤ pos (d * f) +ℤ (c *ℤ pos f +ℤ e *ℤ pos d) *ℤ pos b
sum_assoc_top a c e b d f =
    same (plus (times (plus (times (self a) (nat d)) (times (self c) (nat b))) (nat f)) (times (self e) (nat (b * d))))
    (plus (times (self a) (nat (d * f))) (times (plus (times (self c) (nat f)) (times (self e) (nat d))) (nat b)))
    (omega arith)
