use Rattle.std.proofs.Common.{ap, ◌∙◌}
use Rattle.bs_core.specs.Machine.{pair, code_at}
use Rattle.bs_core.proofs.Moves.{list_here}
use Rattle.bs_core.proofs.changes.pair_of.Goals as goal

pub returns : goal.returns
returns c = ap (pair c.args.name) (c.code_of-code.ensures ∙ ap (code_at c.args.name) (list_here c.args.party c.args.hands.now c.index-hands-party.result c.requires c.index-hands-party.is))
