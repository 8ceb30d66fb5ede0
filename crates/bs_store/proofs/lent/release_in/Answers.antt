use Rattle.std.proofs.Common.{add-zero, ◌∙◌, refl, ap}
use Rattle.bs_core.specs.Machine.{on_list}
use Rattle.bs_core.specs.declared.event.Event.TheVariants.{Release}
use Rattle.bs_store.specs.declared.view.Hand.{Hand}
use Rattle.bs_store.specs.Seats.{InRoom, OfPass, hand_of}
use Rattle.bs_store.proofs.Visits.{visited, released, entered_list}
use Rattle.bs_store.proofs.lent.release_in.Goals as goal

pub invariant_of-pass : goal.invariant_of-pass
invariant_of-pass g c = (visited c.pass.inside.number 0 (on_list (Release c.pass.inside.number c.args.name) c.enter.new.self.table) _ c.take_seat-seat.result.me c.args.room.now c.enter.new.self c.change_release-lowered.new.room c.leave-seat.result.me c.into_badge.result.views c.pass.invariant.numbered c.pass.invariant.no_path c.take_seat-seat.ensures.1 c.enter.ensures.room (ap (λ (r : InRoom). r.hands) c.change_release-lowered.ensures.room) c.leave-seat.ensures.pass.1 c.leave-seat.ensures.pass.2 c.into_badge.ensures.2).1

pub returns-clause-held : goal.returns-clause-held
returns-clause-held g c =
    let h = hand_of c.pass.inside.badge.views in
    let v = (visited c.pass.inside.number 0 (on_list (Release c.pass.inside.number c.args.name) c.enter.new.self.table) _ c.take_seat-seat.result.me c.args.room.now c.enter.new.self c.change_release-lowered.new.room c.leave-seat.result.me c.into_badge.result.views c.pass.invariant.numbered c.pass.invariant.no_path c.take_seat-seat.ensures.1 c.enter.ensures.room (ap (λ (r : InRoom). r.hands) c.change_release-lowered.ensures.room) c.leave-seat.ensures.pass.1 c.leave-seat.ensures.pass.2 c.into_badge.ensures.2).0 in
    let here = entered_list c.pass.inside.number h c.take_seat-seat.result.me c.enter.new.self c.pass.invariant.numbered c.take_seat-seat.ensures.1 c.enter.ensures.held in
    released c.change_release-lowered.result c.pass.inside.number c.args.name c.enter.new.self h (hand_of c.into_badge.result.views) c.args.pass.now.held _ (ap (λ (k : Hand). k.held) v) c.change_release-lowered.ensures.gone here (ap (λ (p : OfPass). p.held) c.pass.view_is) refl

pub returns-clause-gains : goal.returns-clause-gains
returns-clause-gains g c =
    let v = (visited c.pass.inside.number 0 (on_list (Release c.pass.inside.number c.args.name) c.enter.new.self.table) _ c.take_seat-seat.result.me c.args.room.now c.enter.new.self c.change_release-lowered.new.room c.leave-seat.result.me c.into_badge.result.views c.pass.invariant.numbered c.pass.invariant.no_path c.take_seat-seat.ensures.1 c.enter.ensures.room (ap (λ (r : InRoom). r.hands) c.change_release-lowered.ensures.room) c.leave-seat.ensures.pass.1 c.leave-seat.ensures.pass.2 c.into_badge.ensures.2).0 in
    ap (λ (h : Hand). h.gains) v ∙ add-zero _ ∙ ap (λ (p : OfPass). p.gains) c.pass.view_is
