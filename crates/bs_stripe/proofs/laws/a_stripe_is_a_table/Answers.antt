use Rattle.bs_stripe.proofs.Alike.{raises, lowers, adds, dense, finds}
use Rattle.bs_stripe.proofs.laws.a_stripe_is_a_table.Goals as goal

pub returns-clause-raise : goal.returns-clause-raise
returns-clause-raise c = raises

pub returns-clause-lower : goal.returns-clause-lower
returns-clause-lower c = lowers

pub returns-clause-add : goal.returns-clause-add
returns-clause-add c = adds

pub returns-clause-dense : goal.returns-clause-dense
returns-clause-dense c = dense

pub returns-clause-find : goal.returns-clause-find
returns-clause-find c = finds
