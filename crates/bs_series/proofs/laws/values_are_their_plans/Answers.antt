use Rattle.bs_series.proofs.Planned.{planned_exact, planned_written, planned_at}
use Rattle.bs_series.proofs.laws.values_are_their_plans.Goals as goal

pub returns-clause-trees : goal.returns-clause-trees
returns-clause-trees c = record { exact = planned_exact; written = planned_written }

pub returns-clause-codes : goal.returns-clause-codes
returns-clause-codes c = planned_at
