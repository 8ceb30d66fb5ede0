use Rattle.std.proofs.Common.{◌≡◌, List, [], ◌∙◌, sym, ap, subst}
use Rattle.atomic_table.specs.Table.{Me}
use Rattle.bs_stripe.specs.Laws.{kept_of}
use Rattle.bs_store.specs.declared.view.Numbered.{Numbered}
use Rattle.bs_store.specs.declared.view.View.{View}
use Rattle.bs_store.specs.Rule.{Known, lasts, pathed}
use Rattle.bs_store.specs.Seats.{InRoom, alone, first_hand, first_table, table_of}
use Rattle.bs_store.specs.Reading.{step_on}
use Rattle.bs_store.proofs.Rooms.{known_left}
use Rattle.bs_store.proofs.room.Room.leave_reading.Goals as goal

pub invariant_of-self : goal.invariant_of-self
invariant_of-self g c =
    let i = c.self.invariant in
    let e = c.leave_seat.ensures.same in
    let tables = sym (ap (λ (m : Me (Unit {0}) View). m.0.tables) e.1) in (
      e.0 ∙ i.0,
      ap (λ (m : Me (Unit {0}) View). m.1) e.1 ∙ i.1,
      subst (λ (ts : List Numbered). ts ≡ table_of c.self.inside.number (first_table ts)) tables i.2,
      subst (λ (ts : List Numbered). c.self.inside.stripe ≡ kept_of (first_table ts)) tables i.3,
      subst Known (sym (ap (λ (m : Me (Unit {0}) View). m.0) e.1)) (known_left _ i.4),
      i.5,
    )

pub returns-clause-pass : goal.returns-clause-pass
returns-clause-pass g c = (
  c.leave_seat.ensures.pass.0 ∙ c.self.invariant.0,
  c.leave_seat.ensures.pass.1 ∙ ap (λ (r : InRoom). (alone (pathed (step_on c.args.name c.args.pending.now.items r.table (first_hand (lasts r.hands))) (first_hand (lasts r.hands))), [])) c.self.view_is,
  c.leave_seat.ensures.known,
)
