use Rattle.std.proofs.Common.{◌+◌, ◌∙◌, [], ◌∷◌, ◌++◌, ap}
use Rattle.bs_core.specs.Machine.{on_list, pair, code_at}
use Rattle.bs_core.specs.declared.event.Event.TheVariants.{Hold}
use Rattle.bs_store.specs.declared.view.Hand.{Hand}
use Rattle.bs_store.specs.Seats.{InRoom, OfPass}
use Rattle.bs_store.proofs.Visits.{visited}
use Rattle.bs_store.proofs.lent.hold_in.Goals as goal

pub invariant_of-pass : goal.invariant_of-pass
invariant_of-pass g c = (visited c.pass.inside.number 1 (on_list (Hold c.pass.inside.number c.args.name) c.enter.new.self.table) _ c.take_seat-seat.result.me c.args.room.now c.enter.new.self c.change_hold.new.room c.leave-seat.result.me c.into_badge.result.views c.pass.invariant.numbered c.pass.invariant.no_path c.take_seat-seat.ensures.1 c.enter.ensures.room (ap (λ (r : InRoom). r.hands) c.change_hold.ensures) c.leave-seat.ensures.pass.1 c.leave-seat.ensures.pass.2 c.into_badge.ensures.2).1

pub returns-clause-held : goal.returns-clause-held
returns-clause-held g c =
    let v = (visited c.pass.inside.number 1 (on_list (Hold c.pass.inside.number c.args.name) c.enter.new.self.table) _ c.take_seat-seat.result.me c.args.room.now c.enter.new.self c.change_hold.new.room c.leave-seat.result.me c.into_badge.result.views c.pass.invariant.numbered c.pass.invariant.no_path c.take_seat-seat.ensures.1 c.enter.ensures.room (ap (λ (r : InRoom). r.hands) c.change_hold.ensures) c.leave-seat.ensures.pass.1 c.leave-seat.ensures.pass.2 c.into_badge.ensures.2).0 in
    ap (λ (h : Hand). h.held) v ∙ ap (λ (p : OfPass). p.held ++ pair c.args.name (code_at c.args.name p.held) ∷ []) c.pass.view_is

pub returns-clause-gains : goal.returns-clause-gains
returns-clause-gains g c =
    let v = (visited c.pass.inside.number 1 (on_list (Hold c.pass.inside.number c.args.name) c.enter.new.self.table) _ c.take_seat-seat.result.me c.args.room.now c.enter.new.self c.change_hold.new.room c.leave-seat.result.me c.into_badge.result.views c.pass.invariant.numbered c.pass.invariant.no_path c.take_seat-seat.ensures.1 c.enter.ensures.room (ap (λ (r : InRoom). r.hands) c.change_hold.ensures) c.leave-seat.ensures.pass.1 c.leave-seat.ensures.pass.2 c.into_badge.ensures.2).0 in
    ap (λ (h : Hand). h.gains) v ∙ ap (λ (p : OfPass). p.gains + 1) c.pass.view_is
