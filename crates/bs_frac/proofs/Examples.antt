use Rattle.std.proofs.Common.{◌≡◌, ℕ, ◌-◌, ℤ, pos, negsuc, refl, Some, None}
use Rattle.bs_frac.specs.Gcd.{gcd}
use Rattle.bs_frac.specs.Fraction.{Fraction}
use Rattle.bs_frac.specs.Checked.{largest, checked_sum, checked_product, sum_gcd, sum_left, sum_right, sum_top, sum_common, sum_bottom, cross_gcd, product_top, product_bottom}

abbrev frac : ℤ → ℕ → Fraction
frac n d = record { top = n; bottom = d }

halves : checked_sum (frac (pos 1) 6) (frac (negsuc 0) 10) ≡ Some (frac (pos 1) 15)
unfolding gcd sum_gcd sum_left sum_right sum_top sum_common sum_bottom
halves = refl

nothing : checked_sum (frac (pos 1) 6) (frac (negsuc 0) 6) ≡ Some (frac (pos 0) 1)
unfolding gcd sum_gcd sum_left sum_right sum_top sum_common sum_bottom
nothing = refl

too_large : checked_sum (frac (pos 1) largest) (frac (pos 1) (largest - 1)) ≡ None
unfolding gcd sum_gcd sum_left sum_right sum_top sum_common sum_bottom
too_large = refl

times : checked_product (frac (negsuc 3) 9) (frac (pos 3) 2) ≡ Some (frac (negsuc 1) 3)
unfolding gcd cross_gcd product_top product_bottom
times = refl
