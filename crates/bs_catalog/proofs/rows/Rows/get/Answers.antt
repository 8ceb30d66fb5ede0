use Rattle.std.proofs.Common.{length, ap, arith}
use Rattle.bs_catalog.proofs.RowLists.{length-rows_from, reads}
use Rattle.bs_catalog.proofs.rows.Rows.get.Goals as goal

pub start_at-start-requires : goal.start_at-start-requires
start_at-start-requires c = omega (arith, length-rows_from 0 c.self.inside.ends.items c.self.inside.pool.items, ap length c.self.view_is, ap length c.deref.ensures.value)

pub index-requires : goal.index-requires
index-requires c = omega (arith, length-rows_from 0 c.self.inside.ends.items c.self.inside.pool.items, ap length c.self.view_is)

pub row_between-requires-clause-up : goal.row_between-requires-clause-up
row_between-requires-clause-up c =
    (reads c.self.inside.ends.items c.self.inside.pool.items _ c.deref.result.now c.deref-2.result.now c.args.place c.start_at-start.result c.index.result.now
    c.self.view_is c.self.invariant c.deref.ensures.value c.deref-2.ensures.value c.start_at-start.ensures c.index.ensures c.requires).up

pub row_between-requires-clause-within : goal.row_between-requires-clause-within
row_between-requires-clause-within c =
    (reads c.self.inside.ends.items c.self.inside.pool.items _ c.deref.result.now c.deref-2.result.now c.args.place c.start_at-start.result c.index.result.now
    c.self.view_is c.self.invariant c.deref.ensures.value c.deref-2.ensures.value c.start_at-start.ensures c.index.ensures c.requires).within

pub returns : goal.returns
returns c =
    (reads c.self.inside.ends.items c.self.inside.pool.items _ c.deref.result.now c.deref-2.result.now c.args.place c.start_at-start.result c.index.result.now
    c.self.view_is c.self.invariant c.deref.ensures.value c.deref-2.ensures.value c.start_at-start.ensures c.index.ensures c.requires).is _ c.row_between.ensures
