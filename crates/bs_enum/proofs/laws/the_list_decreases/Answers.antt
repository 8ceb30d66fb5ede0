use Rattle.bs_enum.proofs.Facts.{list_decreases}
use Rattle.bs_enum.proofs.laws.the_list_decreases.Goals as goal

pub returns : goal.returns
returns c = list_decreases
