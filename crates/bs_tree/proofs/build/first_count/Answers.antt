use Rattle.bs_tree.proofs.Reading.{first_count_by}
use Rattle.bs_tree.proofs.build.first_count.Goals as goal

pub returns-clause-value : goal.returns-clause-value
returns-clause-value c = first_count_by c.args.pairs.now _ c.requires c.deeper_count.ensures.value
