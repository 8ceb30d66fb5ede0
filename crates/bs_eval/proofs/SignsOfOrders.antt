-- The sign of an order by its remainder.
use Rattle.std.proofs.Common.{◌≡◌, ℕ, zero, suc, ◌+◌, ◌*◌, ◌/◌, ◌%◌, ◌<◌, refl, sym, ◌∙◌, ap, subst, arith, ℤ}
use Rattle.std.proofs.Math.IntN.{neg_ℤ-neg_ℤ}
use Rattle.bs_frac.specs.Written.{checked, opposite_coef}
use Rattle.bs_frac.specs.Fraction.{Fraction}
use Rattle.bs_frac.specs.declared.coef.Coef.{Coef}
use Rattle.bs_frac.specs.declared.coef.Coef.TheVariants.{Value, Overflow}
use Rattle.bs_series.specs.Value.{signed_by}

opposite_twice : (v : Coef) → opposite_coef (opposite_coef v) ≡ v
opposite_twice Overflow = refl
opposite_twice (Value x) = ap (λ (t : ℤ). Value (let y : Fraction = record { top = t; bottom = x.bottom } in y)) (neg_ℤ-neg_ℤ x.top)

abbrev twice : ℕ → ℕ
twice zero = zero
twice (suc k) = suc (suc (twice k))

twice_is : (k : ℕ) → twice k ≡ 2 * k
twice_is zero = refl
twice_is (suc k) = let h = twice_is k in omega (arith, h)

signed_twice : (v : Coef) (k : ℕ) → signed_by checked (twice k) v ≡ v
signed_twice v zero = refl
signed_twice v (suc k) = ap (λ (x : Coef). opposite_coef (opposite_coef x)) (signed_twice v k) ∙ opposite_twice v

pub signed_even : (v : Coef) (n : ℕ) → n % 2 ≡ 0 → signed_by checked n v ≡ v
signed_even v n e = let t = twice_is (n / 2) in let m : n ≡ twice (n / 2) = omega (arith, t, e) in ap (λ (k : ℕ). signed_by checked k v) m ∙ signed_twice v (n / 2)

pub signed_odd : (v : Coef) (n : ℕ) → n % 2 ≡ 1 → signed_by checked n v ≡ opposite_coef v
signed_odd v n e =
    let t = twice_is (n / 2) in let m : n ≡ suc (twice (n / 2)) = omega (arith, t, e) in
    ap (λ (k : ℕ). signed_by checked k v) m ∙ ap opposite_coef (signed_twice v (n / 2))
