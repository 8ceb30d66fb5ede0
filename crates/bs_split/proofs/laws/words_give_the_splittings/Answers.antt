use Rattle.bs_split.proofs.Words.{splits_are, splits_few}
use Rattle.bs_split.proofs.laws.words_give_the_splittings.Goals as goal

pub returns-clause-same : goal.returns-clause-same
returns-clause-same c = splits_are

pub returns-clause-few : goal.returns-clause-few
returns-clause-few c = splits_few
