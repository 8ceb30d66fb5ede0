use Rattle.bs_frac.proofs.Same.{sum_same, difference_same, opposite_same, product_same, reciprocal_same, quotient_same}
use Rattle.bs_frac.proofs.written_laws.operations_keep_equality.Goals as goal

pub returns : goal.returns
returns c = record {
  sum = λ x x' y y'. sum_same;
  difference = λ x x' y y'. difference_same;
  opposite = λ x y. opposite_same;
  product = λ x x' y y'. product_same;
  reciprocal = λ x y. reciprocal_same;
  quotient = λ x x' y y'. quotient_same;
}
