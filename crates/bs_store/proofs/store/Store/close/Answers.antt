use Rattle.std.proofs.Common.{◌∙◌, List, length, sym, ap, subst, arith, min}
use Rattle.bs_store.specs.declared.view.Numbered.{Numbered}
use Rattle.bs_core.specs.Machine.{most}
use Rattle.bs_store.specs.Seats.{OfStore}
use Rattle.bs_store.specs.Closing.{AllNumbers, all_entries}
use Rattle.bs_store.proofs.Endings.{ending, ending_least, cut_off}
use Rattle.bs_store.proofs.store.Store.close.Goals as goal

pub returns-clause-exact : goal.returns-clause-exact
returns-clause-exact g c few =
    let f = c.close_with.ensures.values.2 in
    let i = c.self.invariant in
    let r = c.join_rooms-seat.ensures in
    let p = c.join_passes-seat.ensures in
    let all = subst (λ m. AllNumbers m c.args.passes.items) (sym (ap (λ (s : OfStore). s.passes) c.self.view_is)) c.requires.all in
    let done = ending _ _ _ _ _ c.args.passes.items c.join_rooms-seat.result.0.me.0.hands f.1.0 f.1.1 (ap (λ (l : List Numbered). length l) p.seat.1 ∙ r.tables.0 ∙ i.3) p.hands all few in
    let sums = ap all_entries p.seat.1 in
    let live = r.tables.1 in
    let count = done.0 in
    let small = done.1 in
    omega arith

pub returns-clause-least : goal.returns-clause-least
returns-clause-least g c =
    let f = c.close_with.ensures.values.2 in
    let i = c.self.invariant in
    let r = c.join_rooms-seat.ensures in
    let p = c.join_passes-seat.ensures in
    let all = subst (λ m. AllNumbers m c.args.passes.items) (sym (ap (λ (s : OfStore). s.passes) c.self.view_is)) c.requires.all in
    let least = ending_least _ _ _ _ _ c.args.passes.items c.join_rooms-seat.result.0.me.0.hands f.1.0 f.1.1 (ap (λ (l : List Numbered). length l) p.seat.1 ∙ r.tables.0 ∙ i.3) p.hands all in
    cut_off _ _ c.join_rooms-seat.result.1 least (r.tables.1 ∙ ap (λ (l : List Numbered). min (all_entries l) most) (sym p.seat.1))
