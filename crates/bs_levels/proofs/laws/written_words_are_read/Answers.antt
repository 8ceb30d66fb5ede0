use Rattle.bs_levels.proofs.ReadsBack.{reads_back}
use Rattle.bs_levels.proofs.laws.written_words_are_read.Goals as goal

pub returns : goal.returns
returns c = reads_back
