use Rattle.bs_tree.proofs.Canon.{isomorphic_refl, isomorphic_sym, isomorphic_trans}
use Rattle.bs_tree.proofs.laws.isomorphism_is_an_equivalence.Goals as goal

pub returns-clause-reflexive : goal.returns-clause-reflexive
returns-clause-reflexive c = isomorphic_refl

pub returns-clause-symmetric : goal.returns-clause-symmetric
returns-clause-symmetric c = isomorphic_sym

pub returns-clause-transitive : goal.returns-clause-transitive
returns-clause-transitive c = isomorphic_trans
