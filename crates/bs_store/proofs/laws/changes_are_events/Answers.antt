use Rattle.bs_store.proofs.Events.{changes_are}
use Rattle.bs_store.proofs.laws.changes_are_events.Goals as goal

pub returns : goal.returns
returns c = changes_are
