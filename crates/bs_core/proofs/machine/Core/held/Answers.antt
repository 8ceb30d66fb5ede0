use Rattle.std.proofs.Common.{ap, ◌∙◌}
use lib.ListN.{get_or}
use Rattle.bs_core.specs.Machine.{State}
use Rattle.bs_core.proofs.Places.{list_get}
use Rattle.bs_core.proofs.machine.Core.held.Goals as goal

pub returns : goal.returns
returns c =
    let d = c.index.result.now in
    c.held.ensures ∙ c.index.ensures ∙ ap (λ (g : State). get_or g.lists c.args.party d) c.self.view_is ∙ list_get c.args.party c.args.self.now.lists d c.requires
