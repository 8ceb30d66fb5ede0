use Rattle.std.proofs.Common.{length, ap, arith}
use Rattle.bs_catalog.proofs.RowLists.{length-rows_from}
use Rattle.bs_catalog.proofs.rows.Rows.len.Goals as goal

pub returns : goal.returns
returns c = omega (arith, length-rows_from 0 c.self.inside.ends.items c.self.inside.pool.items, ap length c.self.view_is)
