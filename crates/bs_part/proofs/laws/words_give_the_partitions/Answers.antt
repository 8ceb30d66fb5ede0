use Rattle.bs_part.proofs.Words.{parts_are, parts_count}
use Rattle.bs_part.proofs.laws.words_give_the_partitions.Goals as goal

pub returns-clause-same : goal.returns-clause-same
returns-clause-same c = parts_are

pub returns-clause-one_each : goal.returns-clause-one_each
returns-clause-one_each c = parts_count
