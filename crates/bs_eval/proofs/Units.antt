-- The checked fraction 1/n is 1/n.
use Rattle.std.proofs.Common.{◌≡◌, ℕ, ◌<◌, ◌/◌, ◌^◌, ◌&&◌, Bool, false, cond, Some, None, pos, ◌∙◌, ap, arith}
use Rattle.std.proofs.Math.Nat.{div-one}
use Rattle.std.proofs.lemmas.Bool.{le-leb}
use Rattle.bs_frac.specs.Fraction.{Fraction}
use Rattle.bs_frac.specs.Gcd.{gcd}
use Rattle.bs_frac.specs.Checked.{checked_fraction, is_small, largest}
use Rattle.bs_frac.proofs.GcdLaws.{gcd-one}
use Rattle.bs_series.specs.Value.{unit_fraction}

by_gcd : (n g : ℕ) → g ≡ 1 → n < 2 ^ 64
    → cond (is_small (1 / g) && is_small (n / g)) (Some (let x : Fraction = record { top = pos (1 / g); bottom = n / g } in x)) None ≡ Some (unit_fraction n)
by_gcd n g e h =
    ap (λ (k : ℕ). cond (is_small (1 / k) && is_small (n / k)) (Some (let x : Fraction = record { top = pos (1 / k); bottom = n / k } in x)) None) e
    ∙ ap (λ (m : ℕ). cond (is_small 1 && is_small m) (Some (let x : Fraction = record { top = pos 1; bottom = m } in x)) None) (div-one n)
    ∙ ap (λ (b : Bool). cond b (Some (unit_fraction n)) None) (le-leb n largest (omega (arith, h)))

pub unit_checked : (n : ℕ) → n < 2 ^ 64 → checked_fraction false 1 n ≡ Some (unit_fraction n)
unit_checked n h = by_gcd n (gcd 1 n) (gcd-one n) h
