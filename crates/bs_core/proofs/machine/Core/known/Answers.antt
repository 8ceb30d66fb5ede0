use Rattle.std.proofs.Common.{length, subst}
use Rattle.bs_core.specs.Machine.{State, state_of}
use Rattle.bs_core.specs.Laws.{NamesDecideTrees}
use Rattle.bs_core.proofs.Runs.{names_decide_trees}
use Rattle.bs_core.proofs.machine.Core.known.Goals as goal

pub returns-clause-names : goal.returns-clause-names
returns-clause-names c =
    let ts = c.self.inside.tables.items in
    subst (λ (g : State). NamesDecideTrees g) c.self.view_is (names_decide_trees (length ts) (state_of ts c.self.inside.hands.items) c.self.invariant.2)
