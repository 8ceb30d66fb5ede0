-- Where a written value of a modifying series is no overflow, the series is not 0 at the leaf.
use Rattle.std.proofs.Common.{◌≡◌, ◌≢◌, ℕ, suc, zero, ◌*◌, ◌<◌, ℤ, pos, negsuc, ◌*ℤ◌, arith, refl, sym, ◌∙◌, ap, subst, mul-pos}
use Rattle.bs_frac.specs.Fraction.{Fraction}
use Rattle.bs_frac.specs.Checked.{checked_quotient}
use Rattle.bs_frac.specs.Written.{Agrees, IsZero, coef_of, strict}
use Rattle.bs_frac.specs.declared.coef.Coef.{Coef}
use Rattle.bs_frac.specs.declared.coef.Coef.TheVariants.{Value, Overflow}
use Rattle.bs_frac.proofs.Ring.{nat, minus, times, out}
use Rattle.bs_part.specs.Partition.{leaf}
use Rattle.bs_tableau.specs.Laws.{IfValue}
use Rattle.bs_series.specs.Series.{modifying}
use Rattle.bs_series.specs.Value.{value, written}
use Rattle.bs_series.specs.Laws.{DivisorLaw}
use Rattle.bs_series.proofs.Planned.{planned_written}
use Rattle.bs_series.proofs.Written.{written_agrees}

zero_top : (a c : ℤ) (b d : ℕ) → 0 < d → a *ℤ pos d ≡ c *ℤ pos b → c ≡ pos 0 → a ≡ pos 0
zero_top (pos zero) c b d h e z = refl
zero_top (pos (suc n)) c b d h e z =
    let k = out (times (nat (suc n)) (nat d)) (times (nat 0) (nat b)) (e ∙ ap (λ (i : ℤ). i *ℤ pos b) z) in
    absurd (let p : 0 < suc n * d = mul-pos (omega arith) h in omega arith)
zero_top (negsuc n) c b d h e z =
    let k = out (times (minus (nat (suc n))) (nat d)) (times (nat 0) (nat b)) (e ∙ ap (λ (i : ℤ). i *ℤ pos b) z) in
    absurd (let p : 0 < suc n * d = mul-pos (omega arith) h in omega arith)

any_value : {Q : Type 0} (c : Coef) → Q → IfValue c (λ _. Q)
any_value (Value x) q = q
any_value Overflow q = tt

quotient_there : (z d : Coef) (v : Fraction) → Agrees d v → ¬ IsZero d → IfValue (strict checked_quotient z d) (λ _. v.top ≢ pos 0)
quotient_there Overflow d v h n = tt
quotient_there (Value x) Overflow v h n = tt
quotient_there (Value x) (Value w) v h n = any_value (coef_of (checked_quotient x w)) (λ z. n (zero_top w.top v.top w.bottom v.bottom h.1.right h.1.cross z))

pub divisor_law : DivisorLaw
divisor_law tables begun a m n t =
    subst (λ c. IfValue c (λ _. (value tables a leaf).top ≢ pos 0)) (sym (planned_written tables (modifying a) tt t))
    (quotient_there _ (written tables a leaf) (value tables a leaf) (written_agrees tables begun a m leaf) n)
