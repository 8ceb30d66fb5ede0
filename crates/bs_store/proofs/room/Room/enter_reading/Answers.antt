use Rattle.std.proofs.Common.{[], ◌∷◌, ◌++◌, ◌∙◌, ap}
use Rattle.bs_core.specs.declared.table.Table.{Table}
use Rattle.bs_store.specs.declared.view.View.{View}
use Rattle.bs_store.specs.Rule.{pathed}
use Rattle.bs_store.specs.Seats.{InRoom, first_hand, first_table, with_hands}
use Rattle.bs_store.specs.Reading.{entered}
use Rattle.bs_store.proofs.Readers.{first_none}
use Rattle.bs_store.proofs.room.Room.enter_reading.Goals as goal

pub returns : goal.returns
returns g c =
    let h = first_hand c.args.pass.me.0.hands in
    let p = pathed (entered c.args.name h.held h.path) h in
    let v = c.self.inside.seat.me.0 in
    ap (λ (u : View). let r : InRoom = record { number = c.self.inside.number; table = first_table u.tables; hands = u.hands } in r) c.enter_seat.ensures.joined
    ∙ ap (λ (t : Table). let r : InRoom = record { number = c.self.inside.number; table = t; hands = v.hands ++ p ∷ [] } in r) (first_none v.tables)
    ∙ ap (λ (r : InRoom). with_hands r (r.hands ++ p ∷ [])) c.self.view_is
