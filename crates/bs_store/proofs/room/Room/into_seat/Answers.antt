use Rattle.std.proofs.Common.{◌∙◌, List, length, ap, arith}
use Rattle.bs_stripe.specs.Places.{live}
use Rattle.bs_store.specs.declared.view.Numbered.{Numbered}
use Rattle.bs_store.specs.Closing.{all_entries}
use Rattle.bs_store.proofs.LentRooms.{live_here}
use Rattle.bs_store.proofs.room.Room.into_seat.Goals as goal

pub returns-clause-tables : goal.returns-clause-tables
returns-clause-tables g c =
    let i = c.self.invariant in
    let r = live_here _ _ c.self.inside.seat.me.0 i.4 i.2 in
    let a = ap all_entries i.2 in
    let b = c.live-live.ensures ∙ ap live i.3 in
    (ap (λ (ts : List Numbered). length ts) i.2, omega arith)
