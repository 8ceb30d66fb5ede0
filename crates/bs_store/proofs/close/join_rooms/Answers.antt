use Rattle.std.proofs.Common.{◌≡◌, [], ◌∷◌, ◌++◌, length, ◌∙◌, sym, ap, arith, length-append}
use Rattle.atomic_table.specs.Table.{Me}
use Rattle.bs_store.specs.declared.view.View.{View}
use Rattle.bs_store.specs.declared.view.Numbered.{Numbered}
use Rattle.bs_store.specs.Closing.{all_entries}
use Rattle.bs_store.proofs.Steps.{joins}
use Rattle.bs_store.proofs.Endings.{entries_append}
use Rattle.bs_store.proofs.close.join_rooms.Goals as goal

pub join_seat-requires : goal.join_seat-requires
join_seat-requires g c =
    let i = c.stripes.invariant in
    let s = c.into_seat-seat.ensures.seat in
    (i.seat.0 ∙ sym c.requires.board.0, s.0 ∙ sym c.requires.board.0, s.1, c.requires.board.1, joins _ _ _ _ _ _)

pub stripes-preserved : goal.stripes-preserved
stripes-preserved g c =
    let i = c.stripes.invariant in
    let s = c.into_seat-seat.ensures in
    let j = c.join_seat.ensures in
    let tables : c.join_seat.new.seat.me.0.tables ≡ c.stripes.all.me.0.tables ++ c.into_seat-seat.result.0.me.0.tables = ap (λ (m : Me (Unit {0}) View). m.0.tables) j.2 in
    let long = ap (length {A = Numbered}) tables ∙ length-append c.stripes.all.me.0.tables c.into_seat-seat.result.0.me.0.tables in
    let one = s.tables.0 in
    let was = i.long in
    let yielded = length-append c.stripes.yielded (c.in-Some-stripe.stripe ∷ []) in
    let sums = ap all_entries tables ∙ entries_append c.stripes.all.me.0.tables c.into_seat-seat.result.0.me.0.tables in
    let count = s.tables.1 in
    let live = i.live in
    let added = c.saturating_add-live.ensures in record {
      seat = (j.0 ∙ i.seat.0, ap (λ (m : Me (Unit {0}) View). m.1) j.2 ∙ i.seat.1);
      long = omega arith;
      live = omega arith;
    }
