use Rattle.std.proofs.Common.{◌≡◌, ◌-◌, length}
use Rattle.bs_store.specs.Rule.{Known, new_hands}
use Rattle.bs_store.specs.Seats.{NewPasses}
use Rattle.bs_store.proofs.parts.make_passes.Given as goal

abbrev pub invariant-passes : goal.invariant-passes
invariant-passes l = record {
  same : (l.maker.table_id ≡ l.initial.maker.table_id) × (l.maker.me.0.tables ≡ l.initial.maker.me.0.tables) × (l.maker.me.1 ≡ l.initial.maker.me.1);
  known : Known l.maker.me.0;
  hands : l.maker.me.0.hands ≡ new_hands l.number (l.passes - l.number);
  long : length l.made.items ≡ l.number;
  made : NewPasses l.board.shared.table_id l.made.items;
}
