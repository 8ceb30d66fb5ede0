use Rattle.std.proofs.Common.{◌∙◌, sym, ap}
use Rattle.bs_store.specs.Seats.{OfPass, OfStore}
use Rattle.bs_store.proofs.Visits.{visited_intern}
use Rattle.bs_store.proofs.lent.intern_in.Goals as goal

pub invariant_of-pass : goal.invariant_of-pass
invariant_of-pass g c = (visited_intern c.pass.inside.number c.args.code.now c.change_intern-interned.result _ c.take_seat-seat.result.me c.args.room.now c.enter.new.self c.change_intern-interned.new.room c.leave-seat.result.me c.into_badge.result.views c.args.pass.now c.pass.inside.badge.table_id c.into_badge.result.table_id c.change_intern-interned.ensures.new c.change_intern-interned.ensures.room c.change_intern-interned.ensures.err c.pass.invariant.numbered c.pass.invariant.no_path c.take_seat-seat.ensures.1 c.enter.ensures.room c.leave-seat.ensures.pass.1 c.leave-seat.ensures.pass.2 c.into_badge.ensures.2 c.pass.view_is (c.into_badge.ensures.0 ∙ c.leave-seat.ensures.pass.0 ∙ sym c.store.invariant.0 ∙ ap (λ (s : OfStore). s.table) c.store.view_is ∙ sym c.requires.own ∙ sym (ap (λ (p : OfPass). p.store) c.pass.view_is))).0

pub returns-clause-ok : goal.returns-clause-ok
returns-clause-ok g c = (visited_intern c.pass.inside.number c.args.code.now c.change_intern-interned.result _ c.take_seat-seat.result.me c.args.room.now c.enter.new.self c.change_intern-interned.new.room c.leave-seat.result.me c.into_badge.result.views c.args.pass.now c.pass.inside.badge.table_id c.into_badge.result.table_id c.change_intern-interned.ensures.new c.change_intern-interned.ensures.room c.change_intern-interned.ensures.err c.pass.invariant.numbered c.pass.invariant.no_path c.take_seat-seat.ensures.1 c.enter.ensures.room c.leave-seat.ensures.pass.1 c.leave-seat.ensures.pass.2 c.into_badge.ensures.2 c.pass.view_is (c.into_badge.ensures.0 ∙ c.leave-seat.ensures.pass.0 ∙ sym c.store.invariant.0 ∙ ap (λ (s : OfStore). s.table) c.store.view_is ∙ sym c.requires.own ∙ sym (ap (λ (p : OfPass). p.store) c.pass.view_is))).1

pub returns-clause-gains : goal.returns-clause-gains
returns-clause-gains g c = (visited_intern c.pass.inside.number c.args.code.now c.change_intern-interned.result _ c.take_seat-seat.result.me c.args.room.now c.enter.new.self c.change_intern-interned.new.room c.leave-seat.result.me c.into_badge.result.views c.args.pass.now c.pass.inside.badge.table_id c.into_badge.result.table_id c.change_intern-interned.ensures.new c.change_intern-interned.ensures.room c.change_intern-interned.ensures.err c.pass.invariant.numbered c.pass.invariant.no_path c.take_seat-seat.ensures.1 c.enter.ensures.room c.leave-seat.ensures.pass.1 c.leave-seat.ensures.pass.2 c.into_badge.ensures.2 c.pass.view_is (c.into_badge.ensures.0 ∙ c.leave-seat.ensures.pass.0 ∙ sym c.store.invariant.0 ∙ ap (λ (s : OfStore). s.table) c.store.view_is ∙ sym c.requires.own ∙ sym (ap (λ (p : OfPass). p.store) c.pass.view_is))).2

pub returns-clause-err : goal.returns-clause-err
returns-clause-err g c = (visited_intern c.pass.inside.number c.args.code.now c.change_intern-interned.result _ c.take_seat-seat.result.me c.args.room.now c.enter.new.self c.change_intern-interned.new.room c.leave-seat.result.me c.into_badge.result.views c.args.pass.now c.pass.inside.badge.table_id c.into_badge.result.table_id c.change_intern-interned.ensures.new c.change_intern-interned.ensures.room c.change_intern-interned.ensures.err c.pass.invariant.numbered c.pass.invariant.no_path c.take_seat-seat.ensures.1 c.enter.ensures.room c.leave-seat.ensures.pass.1 c.leave-seat.ensures.pass.2 c.into_badge.ensures.2 c.pass.view_is (c.into_badge.ensures.0 ∙ c.leave-seat.ensures.pass.0 ∙ sym c.store.invariant.0 ∙ ap (λ (s : OfStore). s.table) c.store.view_is ∙ sym c.requires.own ∙ sym (ap (λ (p : OfPass). p.store) c.pass.view_is))).3
