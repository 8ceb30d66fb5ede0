use Rattle.bs_frac.proofs.Gathered.{if_both}
use Rattle.bs_frac.proofs.whole_product.WholeProduct.times.Goals as goal

pub returns-clause-product : goal.returns-clause-product
returns-clause-product c = λ us vs h k. if_both c.both.result c.args.self.now c.args.by.now us vs c.both.ensures.value h k
