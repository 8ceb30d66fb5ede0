use Rattle.bs_core.proofs.Runs.{opening_canonical, step_keeps, refused_stays}
use Rattle.bs_core.proofs.laws.events_keep_canonical_states.Goals as goal

pub returns-clause-opening : goal.returns-clause-opening
returns-clause-opening c = opening_canonical

pub returns-clause-event : goal.returns-clause-event
returns-clause-event c = step_keeps

pub returns-clause-refused : goal.returns-clause-refused
returns-clause-refused c = refused_stays
