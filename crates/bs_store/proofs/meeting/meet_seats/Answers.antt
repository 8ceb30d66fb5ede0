use Rattle.std.proofs.Common.{◌∙◌, ap, ap₂}
use Rattle.atomic_table.specs.Table.{Me}
use Rattle.bs_store.specs.declared.view.View.{View}
use Rattle.bs_store.specs.Rule.{both}
use Rattle.bs_store.proofs.Steps.{joins, looks, leaves}
use Rattle.bs_store.proofs.Rooms.{known_both}
use Rattle.bs_store.proofs.meeting.meet_seats.Goals as goal

pub join_seat-requires : goal.join_seat-requires
join_seat-requires c = let b = c.requires.board in (b.0, b.1, ap (λ (m : Me (Unit {0}) View). m.1) c.requires.second, b.2, joins _ _ _ _ _ _)

pub load-requires : goal.load-requires
load-requires c = let b = c.requires.board in (c.join_seat.ensures.0 ∙ b.0, b.2, looks _ _ _ _ _ _)

pub split_seat-b-requires : goal.split_seat-b-requires
split_seat-b-requires c = let b = c.requires.board in (c.load.ensures.0 ∙ c.join_seat.ensures.0 ∙ b.0, b.2, leaves _ _ _ _)

pub returns-clause-agree : goal.returns-clause-agree
returns-clause-agree c =
    known_both _ _ c.load.new.seat.me.0
    (ap (λ (m : Me (Unit {0}) View). m.0) c.load.ensures.2.0 ∙ ap (λ (m : Me (Unit {0}) View). m.0) c.join_seat.ensures.2 ∙ ap₂ (λ (m n : Me (Unit {0}) View). both m.0 n.0) c.requires.first c.requires.second)
    c.load.ensures.2.1
