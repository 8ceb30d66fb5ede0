use Rattle.std.proofs.Common.{◌≡◌, ap, arith}
use Rattle.std.proofs.Common.{drop}
use Rattle.bs_core.specs.Machine.{live}
use Rattle.bs_core.proofs.Places.{drop_past}
use Rattle.bs_core.proofs.machine.live_in.Goals as goal

pub returns : goal.returns
returns c =
    let e : live (drop c.tables.table-index c.args.tables.now) ≡ 0 = ap live (drop_past c.args.tables.now c.tables.table-index c.tables-test.false) in
    let i = c.tables.invariant.1 in
    let k = c.tables.invariant.0 in omega arith
