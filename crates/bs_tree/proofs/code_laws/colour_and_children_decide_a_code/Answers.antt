use Rattle.bs_tree.proofs.CodeFacts.{code_joined, colour_and_children}
use Rattle.bs_tree.proofs.JoinedCodes.{joined_code}
use Rattle.bs_tree.proofs.code_laws.colour_and_children_decide_a_code.Goals as goal

pub returns-clause-joined : goal.returns-clause-joined
returns-clause-joined c = code_joined

pub returns-clause-decide : goal.returns-clause-decide
returns-clause-decide c = colour_and_children

pub returns-clause-each : goal.returns-clause-each
returns-clause-each c = joined_code
