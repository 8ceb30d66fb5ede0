use Rattle.bs_store.proofs.Numbers.{new_are_all, numbers_decide}
use Rattle.bs_store.proofs.laws.passes_have_all_numbers.Goals as goal

pub returns-clause-new : goal.returns-clause-new
returns-clause-new c = new_are_all

pub returns-clause-home : goal.returns-clause-home
returns-clause-home c = numbers_decide
