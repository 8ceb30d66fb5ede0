use Rattle.std.proofs.Common.{◌≤◌, ◌<◌, List, ◌∙◌, sym, ap, subst}
use Rattle.bs_core.specs.Machine.{times}
use Rattle.bs_core.specs.declared.event.Event.TheVariants.{Hold}
use Rattle.bs_stripe.specs.Places.{raised}
use Rattle.bs_stripe.proofs.Alike.{raises}
use Rattle.bs_store.specs.declared.view.Hand.{Hand}
use Rattle.bs_store.specs.Rule.{hands_at, list_in}
use Rattle.bs_store.specs.Seats.{InRoom}
use Rattle.bs_store.proofs.LentRooms.{some_here, room_moved}
use Rattle.bs_store.proofs.laws.change_hold.Goals as goal

pub raise-requires : goal.raise-requires
raise-requires g c =
    let i = c.room.invariant in
    let hands = ap (λ (r : InRoom). r.hands) c.room.view_is in
    let number = ap (λ (r : InRoom). r.number) c.room.view_is in
    let inside = subst (λ (l : List Hand). 1 ≤ hands_at c.args.pass l) (sym hands) c.requires.inside.0 in
    let held = subst (λ (l : List Hand). 0 < times c.args.name (list_in c.args.pass l)) (sym hands) c.requires.held in
    some_here _ _ c.room.inside.seat.me.0 i.4 i.2 c.args.pass c.args.name c.room.inside.stripe i.3 (c.requires.stripe ∙ sym number) inside held

pub invariant_of-room : goal.invariant_of-room
invariant_of-room g c =
    let i = c.room.invariant in
    let number = ap (λ (r : InRoom). r.number) c.room.view_is in
    let e = c.change.ensures in
    let s = c.args.name.slot in
    let m = room_moved (Hold c.args.pass c.args.name) _ _ c.room.inside.seat.me.0 c.change.new.seat.me.0 c.raise.new.self i.2 (c.requires.stripe ∙ sym number) e.changed.0 (c.raise.ensures ∙ ap (raised s) i.3 ∙ sym (raises s _)) in
    (e.same.0 ∙ i.0, e.same.1 ∙ i.1, m.0, m.1, e.changed.1, i.5)
