use Rattle.bs_series.proofs.Inverse.{inverse_solves, inverse_unique}
use Rattle.bs_series.proofs.laws.inverse_solves_its_equation.Goals as goal

pub returns : goal.returns
returns c = λ a fine n. (λ t k l. inverse_solves a fine t k, λ y fy h. inverse_unique a fine n y fy (λ t k l. h t k l))
