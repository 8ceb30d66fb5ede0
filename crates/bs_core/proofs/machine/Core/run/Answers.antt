use Rattle.std.proofs.Common.{ℕ, length, sym, subst}
use Rattle.bs_core.specs.Machine.{State, HasParties}
use Rattle.bs_core.specs.Laws.{NamesDecideTrees}
use Rattle.bs_core.proofs.Moves.{run_goes, each_get}
use Rattle.bs_core.proofs.Runs.{names_decide_trees}
use Rattle.bs_core.proofs.machine.Core.run.Goals as goal

pub step-requires : goal.step-requires
step-requires c =
    let e = c.event-item.result in
    let i = c.events.event-index in
    subst (λ (m : ℕ). HasParties m e) (sym c.events.invariant.lists) (each_get (HasParties (length c.args.self.now.lists)) i c.args.events.now e c.requires c.events-test.true c.event-item.is)

pub events-preserved : goal.events-preserved
events-preserved c =
    run_goes c.events.event-index c.args.events.now c.event-item.result c.args.self.now c.events.self c.step.new.self c.events.invariant c.events-test.true c.event-item.is c.in_ok-step.ensures.state c.in_ok-step.ensures.canonical

pub returns-in_err-step-clause-names : goal.returns-in_err-step-clause-names
returns-in_err-step-clause-names c =
    subst (λ (g : State). NamesDecideTrees g) (sym c.in_err-step.ensures.err) (names_decide_trees (length c.args.self.now.tables) c.events.self c.events.invariant.canonical)

pub returns-clause-names : goal.returns-clause-names
returns-clause-names c = names_decide_trees (length c.args.self.now.tables) c.events.self c.events.invariant.canonical
