use Rattle.std.proofs.Common.{◌≡◌, ◌≤◌, ◌==◌, true, List, [], ◌∙◌, refl, sym, ap, subst}
use Rattle.bs_core.specs.Codes.{children, stripe_of}
use Rattle.bs_core.specs.Keys.{key_of}
use Rattle.bs_core.specs.Machine.{HasAll, codes, may_enter}
use Rattle.bs_core.specs.declared.name.Name.{Name}
use Rattle.bs_core.specs.declared.table.Table.{Table}
use Rattle.bs_core.specs.declared.event.Event.TheVariants.{Intern}
use Rattle.bs_store.specs.declared.view.Hand.{Hand}
use Rattle.bs_store.specs.Rule.{hands_at, list_in, path_in}
use Rattle.bs_store.specs.Seats.{InRoom, room_after}
use Rattle.bs_store.proofs.LentRooms.{interned_here, intern_local, intern_needs, room_moved}
use Rattle.bs_store.proofs.laws.change_intern.Goals as goal

pub change_coded-requires-clause-may : goal.change_coded-requires-clause-may
change_coded-requires-clause-may g c =
    let i = c.room.invariant in
    let v = c.room.inside.seat.me.0 in
    let hands = ap (λ (r : InRoom). r.hands) c.room.view_is in
    let number = ap (λ (r : InRoom). r.number) c.room.view_is in
    let inside = subst (λ (l : List Hand). 1 ≤ hands_at c.args.pass l) (sym hands) c.requires.inside.0 in
    let all = subst (λ (l : List Hand). HasAll (children c.args.code.now) (list_in c.args.pass l)) (sym hands) c.requires.children in
    let key = c.requires.key ∙ ap (λ (l : List Hand). key_of c.args.code.now (list_in c.args.pass l)) (sym hands) in
    let r = interned_here _ _ v i.4 i.2 c.args.pass c.args.code.now c.args.key c.in_ok-found.found.slot c.in_ok-found.found.new c.room.inside.stripe c.find_or_add.new.stripe i.3 inside c.order-order.ensures.code all key c.in_ok-found.ensures.ok in
    let stripes = ap (λ s. s.stripes) c.store.view_is in
    let path = subst (λ (l : List Hand). path_in c.args.pass l ≡ []) (sym hands) c.requires.inside.1 in
    intern_local _ _ c.args.pass c.in_ok-found.found.slot c.args.code.now _ v i.2 (ap (λ n. stripe_of n c.args.code.now) stripes ∙ c.requires.stripe ∙ sym number) inside path all r.0 c.order-order.ensures.code

pub invariant_of-room-2 : goal.invariant_of-room-2
invariant_of-room-2 g c =
    let i = c.room.invariant in
    let v = c.room.inside.seat.me.0 in
    let hands = ap (λ (r : InRoom). r.hands) c.room.view_is in
    let number = ap (λ (r : InRoom). r.number) c.room.view_is in
    let inside = subst (λ (l : List Hand). 1 ≤ hands_at c.args.pass l) (sym hands) c.requires.inside.0 in
    let all = subst (λ (l : List Hand). HasAll (children c.args.code.now) (list_in c.args.pass l)) (sym hands) c.requires.children in
    let key = c.requires.key ∙ ap (λ (l : List Hand). key_of c.args.code.now (list_in c.args.pass l)) (sym hands) in
    let r = interned_here _ _ v i.4 i.2 c.args.pass c.args.code.now c.args.key c.in_ok-found.found.slot c.in_ok-found.found.new c.room.inside.stripe c.find_or_add.new.stripe i.3 inside c.order-order.ensures.code all key c.in_ok-found.ensures.ok in
    let e = c.change_coded.ensures in
    let x : Name = record { stripe = c.room.inside.number; slot = c.in_ok-found.found.slot } in
    let m = room_moved (Intern c.args.pass c.args.code.now x) _ _ v c.change_coded.new.seat.me.0 c.find_or_add.new.stripe i.2 refl e.changed.0 r.1 in
    (e.same.0 ∙ i.0, e.same.1 ∙ i.1, m.0, m.1, e.changed.1, i.5)

pub returns-clause-allowed : goal.returns-clause-allowed
returns-clause-allowed g c =
    let i = c.room.invariant in
    let v = c.room.inside.seat.me.0 in
    let hands = ap (λ (r : InRoom). r.hands) c.room.view_is in
    let number = ap (λ (r : InRoom). r.number) c.room.view_is in
    let inside = subst (λ (l : List Hand). 1 ≤ hands_at c.args.pass l) (sym hands) c.requires.inside.0 in
    let all = subst (λ (l : List Hand). HasAll (children c.args.code.now) (list_in c.args.pass l)) (sym hands) c.requires.children in
    let key = c.requires.key ∙ ap (λ (l : List Hand). key_of c.args.code.now (list_in c.args.pass l)) (sym hands) in
    let r = interned_here _ _ v i.4 i.2 c.args.pass c.args.code.now c.args.key c.in_ok-found.found.slot c.in_ok-found.found.new c.room.inside.stripe c.find_or_add.new.stripe i.3 inside c.order-order.ensures.code all key c.in_ok-found.ensures.ok in
    let x : Name = record { stripe = c.room.inside.number; slot = c.in_ok-found.found.slot } in
    let table = ap (λ (r : InRoom). r.table) c.room.view_is in
    intern_needs _ c.args.pass c.args.code.now x (list_in c.args.pass c.args.room.now.hands) c.args.room.now.table (number ∙ sym c.requires.stripe) c.requires.children (subst (λ (t : Table). may_enter x.slot c.args.code.now t ≡ true) table r.0)

pub returns-clause-new : goal.returns-clause-new
returns-clause-new g c =
    let i = c.room.invariant in
    let v = c.room.inside.seat.me.0 in
    let hands = ap (λ (r : InRoom). r.hands) c.room.view_is in
    let number = ap (λ (r : InRoom). r.number) c.room.view_is in
    let inside = subst (λ (l : List Hand). 1 ≤ hands_at c.args.pass l) (sym hands) c.requires.inside.0 in
    let all = subst (λ (l : List Hand). HasAll (children c.args.code.now) (list_in c.args.pass l)) (sym hands) c.requires.children in
    let key = c.requires.key ∙ ap (λ (l : List Hand). key_of c.args.code.now (list_in c.args.pass l)) (sym hands) in
    let r = interned_here _ _ v i.4 i.2 c.args.pass c.args.code.now c.args.key c.in_ok-found.found.slot c.in_ok-found.found.new c.room.inside.stripe c.find_or_add.new.stripe i.3 inside c.order-order.ensures.code all key c.in_ok-found.ensures.ok in
    r.2 ∙ ap (λ (r : InRoom). codes c.args.code.now r.table.entries == 0) c.room.view_is

pub returns-clause-room : goal.returns-clause-room
returns-clause-room g c =
    let i = c.room.invariant in
    let v = c.room.inside.seat.me.0 in
    let hands = ap (λ (r : InRoom). r.hands) c.room.view_is in
    let number = ap (λ (r : InRoom). r.number) c.room.view_is in
    let inside = subst (λ (l : List Hand). 1 ≤ hands_at c.args.pass l) (sym hands) c.requires.inside.0 in
    let all = subst (λ (l : List Hand). HasAll (children c.args.code.now) (list_in c.args.pass l)) (sym hands) c.requires.children in
    let key = c.requires.key ∙ ap (λ (l : List Hand). key_of c.args.code.now (list_in c.args.pass l)) (sym hands) in
    let r = interned_here _ _ v i.4 i.2 c.args.pass c.args.code.now c.args.key c.in_ok-found.found.slot c.in_ok-found.found.new c.room.inside.stripe c.find_or_add.new.stripe i.3 inside c.order-order.ensures.code all key c.in_ok-found.ensures.ok in
    let e = c.change_coded.ensures in
    let x : Name = record { stripe = c.room.inside.number; slot = c.in_ok-found.found.slot } in
    let m = room_moved (Intern c.args.pass c.args.code.now x) _ _ v c.change_coded.new.seat.me.0 c.find_or_add.new.stripe i.2 refl e.changed.0 r.1 in
    (λ j. let z : InRoom = record { number = c.room.inside.number; table = m.2 j; hands = m.3 j } in z) ∙ ap (λ (o : InRoom). room_after (Intern c.args.pass c.args.code.now x) o) c.room.view_is
