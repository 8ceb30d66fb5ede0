use Rattle.bs_tree.proofs.Canon.{canon_from_isomorphic, isomorphic_from_canon}
use Rattle.bs_tree.proofs.laws.canonical_sequences_decide_isomorphism.Goals as goal

pub returns : goal.returns
returns c = λ t u r s a b. (canon_from_isomorphic t u r s a b, isomorphic_from_canon t u r s a b)
