use Rattle.std.proofs.Common.{◌≡◌, ◌-◌, length, All}
use Rattle.bs_store.specs.Rule.{Known, new_tables}
use Rattle.bs_store.specs.Seats.{IsAt}
use Rattle.bs_store.proofs.parts.make_desks.Given as goal

abbrev pub invariant-stripes : goal.invariant-stripes
invariant-stripes l = record {
  same : l.maker.table_id ≡ l.initial.maker.table_id;
  known : Known l.maker.me.0;
  tables : l.maker.me.0.tables ≡ new_tables l.number (l.stripes - l.number);
  long : length l.made.items ≡ l.number;
  made : All (IsAt l.board.shared.table_id) l.made.items;
}
