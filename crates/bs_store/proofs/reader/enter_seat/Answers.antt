use Rattle.std.proofs.Common.{◌∙◌, ap}
use Rattle.atomic_table.specs.Table.{Me}
use Rattle.bs_store.specs.declared.view.View.{View}
use Rattle.bs_store.specs.Seats.{first_hand}
use Rattle.bs_store.proofs.Steps.{looks}
use Rattle.bs_store.proofs.Readers.{joins_on}
use Rattle.bs_store.proofs.reader.enter_seat.Goals as goal

pub join_seat-requires : goal.join_seat-requires
join_seat-requires g c =
    let b = c.requires.board in
    (b.0, b.1, ap (λ (m : Me (Unit {0}) View). m.1) c.requires.pass, b.2, joins_on _ _ _ _ _ _ (first_hand c.args.pass.me.0.hands) c.args._name g.E.OnPath.path (ap (λ (m : Me (Unit {0}) View). m.0) c.requires.pass) c.requires.there c.requires.path)

pub load-requires : goal.load-requires
load-requires g c = let b = c.requires.board in (c.join_seat.ensures.0 ∙ b.0, b.2, looks _ _ _ _ _ _)
