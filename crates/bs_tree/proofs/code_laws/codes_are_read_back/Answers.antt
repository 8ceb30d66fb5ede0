use Rattle.bs_tree.proofs.CodeOf.{canon_is_code}
use Rattle.bs_tree.proofs.CodeFacts.{code_level_sequence, code_written, code_back}
use Rattle.bs_tree.proofs.code_laws.codes_are_read_back.Goals as goal

pub returns-clause-back : goal.returns-clause-back
returns-clause-back c = λ s h. (code_level_sequence s h, code_written s h, code_back s h)

pub returns-clause-each_tree : goal.returns-clause-each_tree
returns-clause-each_tree c = λ t small colours. canon_is_code t small colours.0 colours.1
