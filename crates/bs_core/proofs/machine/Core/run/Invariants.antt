use Rattle.bs_core.proofs.Moves.{RunsTo}
use Rattle.bs_core.proofs.machine.Core.run.Given as goal

abbrev pub invariant-events : goal.invariant-events
invariant-events l = RunsTo l.event-index l.events l.initial.self l.self
