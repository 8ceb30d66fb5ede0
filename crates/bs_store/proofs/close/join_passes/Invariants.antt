use Rattle.std.proofs.Common.{◌≡◌, ◌++◌, map, All}
use Rattle.bs_store.specs.Closing.{pass_hand, IsOf}
use Rattle.bs_store.proofs.close.join_passes.Given as goal

abbrev pub invariant-passes : goal.invariant-passes
invariant-passes l = record {
  seat : (l.all.table_id ≡ l.initial.all.table_id) × (l.all.me.0.tables ≡ l.initial.all.me.0.tables);
  hands : l.all.me.0.hands ≡ l.initial.all.me.0.hands ++ map pass_hand l.yielded;
  own : All (IsOf l.board.shared.table_id) l.pass-iterator.rest.items;
}
