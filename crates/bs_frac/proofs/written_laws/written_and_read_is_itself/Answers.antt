use Rattle.bs_frac.proofs.Texts.{read_back}
use Rattle.bs_frac.proofs.written_laws.written_and_read_is_itself.Goals as goal

pub returns : goal.returns
returns c = λ x r h. read_back x r h.top h.bottom
