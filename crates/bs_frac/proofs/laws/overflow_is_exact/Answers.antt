use Rattle.bs_frac.proofs.Overflows.{sum_overflow_law, difference_overflow_law, product_overflow_law, quotient_overflow_law, fraction_overflow_law}
use Rattle.bs_frac.proofs.laws.overflow_is_exact.Goals as goal

pub returns : goal.returns
returns c =
    record {
      sum = sum_overflow_law;
      difference = difference_overflow_law;
      product = product_overflow_law;
      quotient = quotient_overflow_law;
      fraction = fraction_overflow_law;
    }
