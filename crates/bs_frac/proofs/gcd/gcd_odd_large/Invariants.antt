use Rattle.std.proofs.Common.{◌≡◌, ◌+◌, ◌%◌}
use Rattle.bs_frac.specs.Gcd.{gcd}
use Rattle.bs_frac.proofs.gcd.gcd_odd_large.Given as goal

abbrev pub invariant-steps : goal.invariant-steps
invariant-steps l = record { same : gcd l.x l.y ≡ gcd l.fn.a l.fn.b; x_odd : l.x % 2 ≡ 1; y_odd : l.y % 2 ≡ 1 }

abbrev pub decreases-steps : goal.decreases-steps
decreases-steps l = l.x + l.y
