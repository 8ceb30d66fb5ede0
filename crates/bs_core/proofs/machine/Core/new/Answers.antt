use Rattle.bs_core.proofs.Moves.{opening_core}
use Rattle.bs_core.proofs.machine.Core.new.Goals as goal

pub invariant_of-result : goal.invariant_of-result
invariant_of-result c =
    let o = opening_core c.args.stripes c.args.parties c.in_ok-tables.tables.items c.in_ok-hands.hands.items c.in_ok-tables.ensures c.in_ok-hands.ensures in
    (c.requires.stripes.0, o.0, o.1)
