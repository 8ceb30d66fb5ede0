use Rattle.bs_tree.proofs.CodeFacts.{children_are_codes, children_decrease, children_add_up}
use Rattle.bs_tree.proofs.code_laws.children_of_a_code_are_codes.Goals as goal

pub returns-clause-codes : goal.returns-clause-codes
returns-clause-codes c = children_are_codes

pub returns-clause-decreasing : goal.returns-clause-decreasing
returns-clause-decreasing c = children_decrease

pub returns-clause-orders : goal.returns-clause-orders
returns-clause-orders c = children_add_up
