use Rattle.bs_series.proofs.Written.{adjoint_law}
use Rattle.bs_series.proofs.laws.adjoint_is_the_signed_inverse.Goals as goal

pub returns : goal.returns
returns c = adjoint_law
