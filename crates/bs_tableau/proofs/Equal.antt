-- The test of equality of fractions decides equality.
use Rattle.std.proofs.Common.{◌≡◌, ℕ, ◌==◌, ◌&&◌, Bool, true, ℤ, pos, negsuc, suc, refl, ap, ap₂, subst, arith}
use Rattle.std.specs.Bool.{Decides}
use Rattle.std.proofs.lemmas.Bool.Decides.{nat_tests, Decides-eqb}
use Rattle.std.proofs.Math.Bool.{beq}
use Rattle.bs_frac.specs.Fraction.{Fraction}
use Rattle.bs_frac.specs.Views.{magnitude, is_below}

abbrev pub same_fraction : Fraction → Fraction → Bool
same_fraction x y = beq (is_below x.top) (is_below y.top) && ((magnitude x.top == magnitude y.top) && (x.bottom == y.bottom))

abbrev made : ℤ → ℕ → Fraction
made top bottom = record { top = top; bottom = bottom }

fields : (s t : ℤ) (m n : ℕ) → same_fraction (record { top = s; bottom = m }) (record { top = t; bottom = n }) ≡ true → made s m ≡ made t n
fields (pos a) (pos b) m n h =
    let ea : a ≡ b = grind (arith, nat_tests) in
    let em : m ≡ n = grind (arith, nat_tests) in
    ap₂ (λ k d. made (pos k) d) ea em
fields (pos a) (negsuc b) m n h = cc
fields (negsuc a) (pos b) m n h = cc
fields (negsuc a) (negsuc b) m n h =
    let ea : a ≡ b = grind (arith, nat_tests) in
    let em : m ≡ n = grind (arith, nat_tests) in
    ap₂ (λ k d. made (negsuc k) d) ea em

itself : (s : ℤ) (m : ℕ) → same_fraction (record { top = s; bottom = m }) (record { top = s; bottom = m }) ≡ true
itself (pos a) m = grind (arith, nat_tests)
itself (negsuc a) m = grind (arith, nat_tests)

pub same_fraction-Decides : (x y : Fraction) → Decides (same_fraction x y) (x ≡ y)
same_fraction-Decides x y = (
  λ h. fields x.top y.top x.bottom y.bottom h,
  λ e. subst (λ z. same_fraction x z ≡ true) e (itself x.top x.bottom),
)
