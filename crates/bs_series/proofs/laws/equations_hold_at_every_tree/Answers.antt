use Rattle.bs_series.proofs.Everywhere.{inverse_everywhere, modified_everywhere, modifying_everywhere}
use Rattle.bs_series.proofs.laws.equations_hold_at_every_tree.Goals as goal

pub returns-clause-inverse : goal.returns-clause-inverse
returns-clause-inverse c = inverse_everywhere

pub returns-clause-modified : goal.returns-clause-modified
returns-clause-modified c = modified_everywhere

pub returns-clause-modifying : goal.returns-clause-modifying
returns-clause-modifying c = modifying_everywhere
