use Rattle.std.proofs.Common.{◌≡◌, ◌-◌, ◌++◌}
use Rattle.bs_make.specs.Made.{joined, coeff_lines}
use Rattle.bs_make.proofs.make.write_coeffs.Given as goal

abbrev pub invariant-pairs : goal.invariant-pairs
invariant-pairs l = l.out.items ++ joined (coeff_lines (8 - l.j) l.j) ≡ l.fn.out.items ++ joined (coeff_lines 8 0)
