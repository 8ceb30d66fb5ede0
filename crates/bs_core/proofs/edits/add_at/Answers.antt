use Rattle.std.proofs.Common.{sym, subst}
use Rattle.std.specs.Prelude.{IsTrue}
use Rattle.bs_core.specs.Machine.{added, is_dense}
use Rattle.bs_core.specs.declared.table.Table.{Table}
use Rattle.bs_core.proofs.Basics.{on_ok}
use Rattle.bs_core.proofs.Moves.{put_place, table_here}
use Rattle.bs_core.proofs.edits.add_at.Goals as goal

pub add-requires : goal.add-requires
add-requires c = subst (λ (t : Table). IsTrue (is_dense c.args.name.slot t)) (sym (table_here c.from.result c.args.name.stripe c.args.tables.now.items c.index_mut.result.now c.from.ensures c.requires.stripe c.index_mut.ensures.value)) c.requires.dense

pub returns-clause-ok : goal.returns-clause-ok
returns-clause-ok c = on_ok c.add.result (λ h. put_place c.from.result c.args.name.stripe (added c.args.name.slot c.args.code.now c.args.links) c.args.tables.now.items c.index_mut.result.now c.add.new.self c.from.ensures c.requires.stripe c.index_mut.ensures.value h) c.add.ensures.ok
