use Rattle.std.proofs.Common.{arith}
use Rattle.bs_core.proofs.Places.{dense_long}
use Rattle.bs_core.proofs.table.Table.add.Goals as goal

pub overflow_add-self : goal.overflow_add-self
overflow_add-self c =
    let h = dense_long c.args.slot c.args.self.now c.requires c.if-at_mark.true in
    let k = c.push.ensures.small in
    omega arith
