use Rattle.bs_frac.proofs.Reordered.{factors_in_any_order, terms_in_any_order}
use Rattle.bs_frac.proofs.whole_laws.gathered_in_any_order.Goals as goal

pub returns : goal.returns
returns c = record { factors = factors_in_any_order; terms = terms_in_any_order }
