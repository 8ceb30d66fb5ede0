use Rattle.bs_levels.proofs.ReadsBack.{plain_reads_back}
use Rattle.bs_levels.proofs.laws.written_levels_are_read.Goals as goal

pub returns : goal.returns
returns c = plain_reads_back
