use Rattle.bs_levels.proofs.ReadsBack.{code_reads_back}
use Rattle.bs_levels.proofs.laws.written_codes_are_read.Goals as goal

pub returns : goal.returns
returns c = code_reads_back
