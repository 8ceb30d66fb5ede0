use Rattle.bs_series.proofs.Solved.{modifying_solves, modifying_unique}
use Rattle.bs_series.proofs.Solvable.{divisor_law}
use Rattle.bs_series.proofs.laws.modifying_solves_its_equation.Goals as goal

pub returns-clause-solves : goal.returns-clause-solves
returns-clause-solves c = λ a fine ne n. (λ t k l. modifying_solves a fine ne t k, λ y fy h. modifying_unique a fine ne n y fy (λ t k l. h t k l))

pub returns-clause-divisor : goal.returns-clause-divisor
returns-clause-divisor c = divisor_law
