-- The odd part of a number, and common divisors with an odd number.
use Rattle.std.proofs.Common.{◌≡◌, ℕ, suc, zero, ◌+◌, ◌*◌, ◌/◌, ◌%◌, ◌^◌, ◌≤◌, ◌<◌, ◌-◌, min, arith, refl, sym, ◌∙◌, ap, ap₂, subst, mul-one, mul_comm, inl, inr}
use Rattle.std.proofs.Math.Nat.{div-one, pow-suc}
use Rattle.std.proofs.lemmas.Nat.{shr-shr, pow-add}
use Rattle.std.proofs.lemmas.Nat.Gcd.{IsGcd-from_sub, same_from_IsGcd, dvd_antisymm}
use Rattle.std.proofs.lemmas.Bool.{cases_lt}
use Rattle.std.proofs.Math.Nat.{dvd-mul_left_of_dvd, eq-one_of_dvd-one}
use Prim.Native.Nat.{◌∣◌}
use Rattle.std.specs.Int.Count.{count_trailing_zeros, under}
use Rattle.bs_frac.specs.Gcd.{gcd}
use Rattle.bs_frac.proofs.GcdLaws.{IsGcd-gcd, gcd-left, gcd-right, gcd-greatest, gcd-swap, gcd-mod, gcd-mul, gcd-one_of_dvd, gcd-product, dvd_other}

step : (r n t : ℕ) → n % 2 ≡ r → (r ≡ 0 → n / 2 / 2 ^ t * 2 ^ t ≡ n / 2) → n / 2 ^ under r t * 2 ^ under r t ≡ n
step zero n t e h =
    let f : 1 + t ≡ suc t = omega arith in
    let g : n / 2 / 2 ^ t * 2 ^ t ≡ n / 2 = h refl in
    subst (λ (s : ℕ). n / 2 ^ s * 2 ^ s ≡ n) f
    (ap₂ (λ (i j : ℕ). i * j) (sym (shr-shr n 1 t)) (pow-add 2 1 t) ∙ regroup (n / 2 / 2 ^ t) (2 ^ t) ∙ ap (λ (i : ℕ). 2 * i) g ∙ omega arith)
  where
    regroup : (a b : ℕ) → a * (2 * b) ≡ 2 * (a * b)
    regroup a b = omega arith
step (suc r) n t e h = mul-one (n / 1) ∙ div-one n

-- the shift by the trailing zeros loses nothing
pub twos_out : (k n : ℕ) → 0 < n → n < 2 ^ k → n / 2 ^ count_trailing_zeros k n * 2 ^ count_trailing_zeros k n ≡ n
unfolding count_trailing_zeros
twos_out zero n p h = absurd (let q : n < 1 = h in omega arith)
twos_out (suc k) n p h =
    step (n % 2) n (count_trailing_zeros k (n / 2)) refl
    (λ e. twos_out k (n / 2) (omega arith) (let q : n < 2 ^ k * 2 = subst (λ (i : ℕ). n < i) (pow-suc 2 k) h in omega arith))

two_one : gcd 2 1 ≡ 1
unfolding gcd
two_one = refl

two_odd : (y : ℕ) → y % 2 ≡ 1 → gcd 2 y ≡ 1
two_odd y e = gcd-swap 2 y ∙ sym (gcd-mod y 2) ∙ ap (gcd 2) e ∙ two_one

pow_odd : (k y : ℕ) → y % 2 ≡ 1 → gcd (2 ^ k) y ≡ 1
pow_odd zero y e = eq-one_of_dvd-one (gcd-left 1 y)
pow_odd (suc k) y e = subst (λ (n : ℕ). gcd n y ≡ 1) (sym (pow-suc 2 k)) (gcd-product (2 ^ k) 2 y (pow_odd k y e) (two_odd y e))

-- a factor that shares nothing with the other number may go
pub gcd-coprime_factor : (m a y : ℕ) → gcd m y ≡ 1 → gcd (a * m) y ≡ gcd a y
gcd-coprime_factor m a y h =
    let d = gcd (a * m) y in
    let dy : d ∣ y = gcd-right (a * m) y in
    let dm : gcd d m ≡ 1 = gcd-one_of_dvd y m d (gcd-swap y m ∙ h) dy in
    let da : d ∣ a = dvd_other d m a dm (subst (λ (n : ℕ). d ∣ n) (mul_comm a m) (gcd-left (a * m) y)) in
    let e = gcd a y in
    let ea : e ∣ a * m = subst (λ (n : ℕ). e ∣ n) (mul_comm m a) (dvd-mul_left_of_dvd e (gcd-left a y) m) in
    dvd_antisymm (gcd-greatest a y d da dy) (gcd-greatest (a * m) y e ea (gcd-right a y))

pub gcd-sub : (a b : ℕ) → b ≤ a → gcd (a - b) b ≡ gcd a b
gcd-sub a b h = same_from_IsGcd a b _ _ (IsGcd-from_sub a b _ h (IsGcd-gcd (a - b) b)) (IsGcd-gcd a b)

-- one step: m is the odd part of the difference of the odd numbers x and y
pub binary_step : (x y m t : ℕ) → x % 2 ≡ 1 → y % 2 ≡ 1 → m * 2 ^ t ≡ (x - y) + (y - x) → gcd m (min x y) ≡ gcd x y
binary_step x y m t ox oy e =
    elim (cases_lt x y) [
      | inl h ↦
          let least : min x y ≡ x = omega arith in
          let apart : m * 2 ^ t ≡ y - x = omega arith in
          ap (gcd m) least ∙ sym (gcd-coprime_factor (2 ^ t) m x (pow_odd t x ox)) ∙ ap (λ (n : ℕ). gcd n x) apart ∙ gcd-sub y x (omega arith) ∙ gcd-swap y x
      | inr h ↦
          let least : min x y ≡ y = omega arith in
          let apart : m * 2 ^ t ≡ x - y = omega arith in
          ap (gcd m) least ∙ sym (gcd-coprime_factor (2 ^ t) m y (pow_odd t y oy)) ∙ ap (λ (n : ℕ). gcd n y) apart ∙ gcd-sub x y h
    ]

-- the odd parts m and n of two numbers, put together again
split_le : (m n i j : ℕ) → m % 2 ≡ 1 → i ≤ j → gcd m n * 2 ^ i ≡ gcd (m * 2 ^ i) (n * 2 ^ j)
split_le m n i j om h =
    let k = j - i in
    let e : n * 2 ^ j ≡ 2 ^ i * (n * 2 ^ k) = ap (λ (s : ℕ). n * 2 ^ s) (let f : j ≡ i + k = omega arith in f) ∙ ap (λ (p : ℕ). n * p) (pow-add 2 i k) ∙ regroup n (2 ^ i) (2 ^ k) in
    let f : gcd m (n * 2 ^ k) ≡ gcd m n =
    gcd-swap m (n * 2 ^ k) ∙ gcd-coprime_factor (2 ^ k) n m (pow_odd k m om) ∙ gcd-swap n m in
    sym (ap₂ gcd (mul_comm m (2 ^ i)) e ∙ gcd-mul (2 ^ i) m (n * 2 ^ k) ∙ ap (λ (g : ℕ). 2 ^ i * g) f ∙ mul_comm (2 ^ i) (gcd m n))
  where
    regroup : (a b c : ℕ) → a * (b * c) ≡ b * (a * c)
    regroup a b c = omega arith

pub binary_split : (a b m n i j : ℕ) → m % 2 ≡ 1 → n % 2 ≡ 1 → m * 2 ^ i ≡ a → n * 2 ^ j ≡ b → gcd m n * 2 ^ min i j ≡ gcd a b
binary_split a b m n i j om on ea eb =
    elim (cases_lt i j) [
      | inl h ↦
          let least : min i j ≡ i = omega arith in
          ap (λ (s : ℕ). gcd m n * 2 ^ s) least ∙ split_le m n i j om (omega arith) ∙ ap₂ gcd ea eb
      | inr h ↦
          let least : min i j ≡ j = omega arith in
          ap (λ (s : ℕ). gcd m n * 2 ^ s) least ∙ ap (λ (g : ℕ). g * 2 ^ j) (gcd-swap m n) ∙ split_le n m j i on h ∙ gcd-swap (n * 2 ^ j) (m * 2 ^ i) ∙ ap₂ gcd ea eb
    ]
