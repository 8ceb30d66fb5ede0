use Rattle.bs_frac.proofs.WrittenSums.{written_sum_law, sum_of_products_law}
use Rattle.bs_frac.proofs.written_laws.written_sum_is_the_sum_of_products.Goals as goal

pub returns : goal.returns
returns c = record { agrees = written_sum_law; reduced_factors = sum_of_products_law }
