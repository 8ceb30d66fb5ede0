-- Laws of the greatest common divisor.
use Rattle.std.proofs.Common.{◌≡◌, ℕ, suc, zero, ◌+◌, ◌*◌, ◌/◌, ◌%◌, ◌≤◌, ◌<◌, arith, refl, sym, ◌∙◌, ap, ap₂, subst, mul-zero, mul-one, mul_comm}
use Rattle.std.proofs.Math.Nat.{mod-lt, pos_of_dvd_of_pos, dvd-mul_left, div-add-mod', mul-lt-mul_of_pos_left, zero-mul, eq-one_of_dvd-one, mul-div_cancel', eq_of_mul-eq-mul_left}
use Prim.Native.Nat.{◌∣◌}
use Rattle.std.proofs.lemmas.Nat.{mod-mul-add}
use Rattle.std.specs.Int.{IsGcd}
use Rattle.std.proofs.lemmas.Nat.Gcd.{IsGcd-from_zero, IsGcd-from_mod, same_from_IsGcd, IsGcd-swap, dvd_trans, dvd_refl, dvd_antisymm, le_of_dvd}
use Rattle.bs_frac.specs.Gcd.{gcd, gcd_within}

-- with enough fuel, Euclid's steps reach the greatest common divisor
IsGcd-gcd_within : (fuel a b : ℕ) → b ≤ fuel → IsGcd a b (gcd_within fuel a b)
IsGcd-gcd_within fuel a zero h = IsGcd-from_zero a 0 refl
IsGcd-gcd_within zero a (suc b) h = absurd (omega arith)
IsGcd-gcd_within (suc fuel) a (suc b) h =
    IsGcd-from_mod a (suc b) _ (IsGcd-gcd_within fuel (suc b) (a % suc b) (omega (arith, mod-lt a {m = suc b} (omega arith))))

pub IsGcd-gcd : (a b : ℕ) → IsGcd a b (gcd a b)
unfolding gcd
IsGcd-gcd a b = IsGcd-gcd_within b a b (omega arith)

pub gcd-zero : (a : ℕ) → gcd a 0 ≡ a
gcd-zero a = same_from_IsGcd a 0 (gcd a 0) a (IsGcd-gcd a 0) (IsGcd-from_zero a 0 refl)

pub gcd-mod : (a b : ℕ) → gcd b (a % b) ≡ gcd a b
gcd-mod a b = same_from_IsGcd a b _ _ (IsGcd-from_mod a b _ (IsGcd-gcd b (a % b))) (IsGcd-gcd a b)

twelve : gcd 24 36 ≡ 12
unfolding gcd
twelve = refl

large : gcd 170141183460469231731687303715884105727 99999999999999999999999999999999 ≡ 1
unfolding gcd
large = refl

pub gcd-left : (a b : ℕ) → gcd a b ∣ a
gcd-left a b = (IsGcd-gcd a b).0

pub gcd-right : (a b : ℕ) → gcd a b ∣ b
gcd-right a b = (IsGcd-gcd a b).1

pub gcd-greatest : (a b d : ℕ) → d ∣ a → d ∣ b → d ∣ gcd a b
gcd-greatest a b d h k = (IsGcd-gcd a b).2 d h k

pub gcd-swap : (a b : ℕ) → gcd a b ≡ gcd b a
gcd-swap a b = same_from_IsGcd a b _ _ (IsGcd-gcd a b) (IsGcd-swap b a _ (IsGcd-gcd b a))

pub gcd-pos : (a b : ℕ) → 0 < b → 0 < gcd a b
gcd-pos a b h = pos_of_dvd_of_pos (gcd-right a b) h

times_mod : (k a b : ℕ) → (k * a) % (k * suc b) ≡ k * (a % suc b)
times_mod zero a b = rw (zero-mul a, zero-mul (suc b), zero-mul (a % suc b)) refl
times_mod (suc k) a b =
    let r = a % suc b in
    let q = a / suc b in
    let lt : r < suc b = mod-lt a {m = suc b} (omega arith) in
    let e : a ≡ q * suc b + r = sym (div-add-mod' a (suc b)) in
    let fits : suc k * r < suc k * suc b = mul-lt-mul_of_pos_left lt (omega arith) in
    let e' : suc k * a ≡ q * (suc k * suc b) + suc k * r = ap (λ n. suc k * n) e ∙ omega arith in
    ap (λ n. n % (suc k * suc b)) e' ∙ mod-mul-add q (suc k * suc b) (suc k * r) fits

gcd-mul_within : (fuel k a b : ℕ) → b ≤ fuel → gcd (k * a) (k * b) ≡ k * gcd a b
gcd-mul_within fuel k a zero h = rw mul-zero (gcd-zero (k * a) ∙ ap (λ n. k * n) (sym (gcd-zero a)))
gcd-mul_within zero k a (suc b) h = absurd (omega arith)
gcd-mul_within (suc fuel) k a (suc b) h =
    sym (gcd-mod (k * a) (k * suc b))
    ∙ ap (gcd (k * suc b)) (times_mod k a b)
    ∙ gcd-mul_within fuel k (suc b) (a % suc b) (omega (arith, mod-lt a {m = suc b} (omega arith)))
    ∙ ap (λ n. k * n) (gcd-mod a (suc b))

pub gcd-mul : (k a b : ℕ) → gcd (k * a) (k * b) ≡ k * gcd a b
gcd-mul k a b = gcd-mul_within b k a b (omega arith)

-- a number that divides a product and shares nothing with the one factor divides the other
pub dvd_other : (a b c : ℕ) → gcd a b ≡ 1 → a ∣ b * c → a ∣ c
dvd_other a b c h k =
    let e : gcd (c * a) (c * b) ≡ c = gcd-mul c a b ∙ ap (λ n. c * n) h ∙ mul-one c in
    let k' : a ∣ c * b = subst (λ n. a ∣ n) (mul_comm b c) k in
    subst (λ n. a ∣ n) e (gcd-greatest (c * a) (c * b) a (dvd-mul_left a c) k')

one_from_dvd : (a b : ℕ) → gcd a b ∣ 1 → gcd a b ≡ 1
one_from_dvd a b h = eq-one_of_dvd-one h

pub gcd-one_of_dvd : (a b c : ℕ) → gcd a b ≡ 1 → c ∣ a → gcd c b ≡ 1
gcd-one_of_dvd a b c h k =
    one_from_dvd c b (subst (λ n. gcd c b ∣ n) h (gcd-greatest a b (gcd c b) (dvd_trans _ (gcd-left c b) k) (gcd-right c b)))

pub gcd-one : (b : ℕ) → gcd 1 b ≡ 1
gcd-one b = eq-one_of_dvd-one (gcd-left 1 b)

pub gcd-same : (a : ℕ) → gcd a a ≡ a
gcd-same a = dvd_antisymm (gcd-left a a) (gcd-greatest a a a (dvd_refl a) (dvd_refl a))

pub gcd-le : (a b : ℕ) → 0 < a → gcd a b ≤ a
gcd-le a b h = le_of_dvd h (gcd-left a b)

pub gcd-product : (a b c : ℕ) → gcd a c ≡ 1 → gcd b c ≡ 1 → gcd (a * b) c ≡ 1
gcd-product a b c h k =
    let d = gcd (a * b) c in
    let dc : d ∣ c = gcd-right (a * b) c in
    let da : gcd d a ≡ 1 = gcd-one_of_dvd c a d (gcd-swap c a ∙ h) dc in
    let db : d ∣ b = dvd_other d a b da (gcd-left (a * b) c) in
    one_from_dvd (a * b) c (subst (λ n. d ∣ n) k (gcd-greatest b c d db dc))

pub gcd-quotients : (a b : ℕ) → 0 < b → gcd (a / gcd a b) (b / gcd a b) ≡ 1
gcd-quotients a b h =
    let g = gcd a b in
    let gp : 0 < g = gcd-pos a b h in
    let ea : g * (a / g) ≡ a = mul-div_cancel' g (gcd-left a b) in
    let eb : g * (b / g) ≡ b = mul-div_cancel' g (gcd-right a b) in
    let e : g * gcd (a / g) (b / g) ≡ g * 1 = sym (gcd-mul g (a / g) (b / g)) ∙ ap₂ gcd ea eb ∙ sym (mul-one g) in
    eq_of_mul-eq-mul_left g gp _ _ e
