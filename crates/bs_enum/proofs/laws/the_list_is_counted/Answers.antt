use Rattle.bs_enum.proofs.Facts.{count_is_of_the_list}
use Rattle.bs_enum.proofs.laws.the_list_is_counted.Goals as goal

pub returns : goal.returns
returns c = count_is_of_the_list
