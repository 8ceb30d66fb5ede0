use Rattle.bs_series.proofs.Solved.{modified_solves, modified_unique}
use Rattle.bs_series.proofs.laws.modified_solves_its_equation.Goals as goal

pub returns : goal.returns
returns c = λ a fine n. (λ t k l. modified_solves a fine t k, λ y fy h. modified_unique a fine n y fy (λ t k l. h t k l))
