use Rattle.bs_frac.proofs.CheckedLaws.{sum_law, difference_law, product_law, quotient_law, fraction_law}
use Rattle.bs_frac.proofs.laws.checked_is_exact.Goals as goal

pub returns : goal.returns
returns c =
    record {
      sum = sum_law;
      difference = difference_law;
      product = product_law;
      quotient = quotient_law;
      fraction = fraction_law;
    }
