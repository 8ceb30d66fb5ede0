use Rattle.bs_frac.proofs.Same.{same_refl, same_sym, same_trans}
use Rattle.bs_frac.proofs.written_laws.equality_is_an_equivalence.Goals as goal

pub returns : goal.returns
returns c = record { reflexive = same_refl; symmetric = λ x y. same_sym; transitive = λ x y z. same_trans }
