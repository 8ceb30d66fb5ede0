use Rattle.std.proofs.Common.{◌≡◌, ◌+◌, [], length, min}
use Rattle.bs_core.specs.Machine.{most}
use Rattle.bs_store.specs.Closing.{all_entries}
use Rattle.bs_store.proofs.close.join_rooms.Given as goal

abbrev pub invariant-stripes : goal.invariant-stripes
invariant-stripes g l = record {
  seat : (l.all.table_id ≡ g.N.StoreName.table) × (l.all.me.1 ≡ []);
  long : length l.all.me.0.tables ≡ 1 + length l.yielded;
  live : l.live ≡ min (all_entries l.all.me.0.tables) most;
}
