use Rattle.bs_part.proofs.Colours.{items_canonical, items_coloured}
use Rattle.bs_part.proofs.laws.items_are_canonical.Goals as goal

pub returns-clause-canonical : goal.returns-clause-canonical
returns-clause-canonical c = items_canonical

pub returns-clause-colours : goal.returns-clause-colours
returns-clause-colours c = items_coloured
