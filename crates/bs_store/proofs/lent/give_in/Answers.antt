use Rattle.std.proofs.Common.{◌≡◌, ℕ, ◌<◌, ◌≤◌, ◌∙◌, List, [], sym, ap, subst}
use Rattle.bs_core.specs.Machine.{without, code_at, times}
use Rattle.bs_core.specs.declared.table.Held.{Held}
use Rattle.bs_core.proofs.Pairs.{push}
use Rattle.bs_store.specs.declared.view.Hand.{Hand}
use Rattle.bs_store.specs.Rule.{hands_at, list_in, path_in}
use Rattle.bs_store.specs.Seats.{OfPass, hand_of}
use Rattle.bs_store.proofs.Visits.{visited_give, inside_differ, both_inside}
use Rattle.bs_store.proofs.lent.give_in.Goals as goal

pub change_give-requires-clause-differ : goal.change_give-requires-clause-differ
change_give-requires-clause-differ g c same = inside_differ (hand_of c.from.inside.badge.views) (hand_of c.to.inside.badge.views) c.take_seat-one.result.me c.take_seat-other.result.me c.args.room.now c.enter.new.self c.enter-2.new.self c.take_seat-one.ensures.1 c.take_seat-other.ensures.1 c.enter.ensures.room c.enter-2.ensures.room c.enter-2.ensures.told (c.from.invariant.numbered ∙ same ∙ sym c.to.invariant.numbered)

pub change_give-requires-clause-from : goal.change_give-requires-clause-from
change_give-requires-clause-from g c =
    let r = both_inside (hand_of c.from.inside.badge.views) (hand_of c.to.inside.badge.views) c.take_seat-one.result.me c.take_seat-other.result.me c.args.room.now c.enter.new.self c.enter-2.new.self c.take_seat-one.ensures.1 c.take_seat-other.ensures.1 c.enter.ensures.room c.enter-2.ensures.room c.enter-2.ensures.told in
    subst (λ (k : ℕ). (1 ≤ hands_at k c.enter-2.new.self.hands) × (path_in k c.enter-2.new.self.hands ≡ [])) c.from.invariant.numbered (r.0, r.2 ∙ c.from.invariant.no_path)

pub change_give-requires-clause-held : goal.change_give-requires-clause-held
change_give-requires-clause-held g c =
    let r = both_inside (hand_of c.from.inside.badge.views) (hand_of c.to.inside.badge.views) c.take_seat-one.result.me c.take_seat-other.result.me c.args.room.now c.enter.new.self c.enter-2.new.self c.take_seat-one.ensures.1 c.take_seat-other.ensures.1 c.enter.ensures.room c.enter-2.ensures.room c.enter-2.ensures.told in
    let list = subst (λ (k : ℕ). list_in k c.enter-2.new.self.hands ≡ (hand_of c.from.inside.badge.views).held) c.from.invariant.numbered r.1 in
    subst (λ (l : List Held). 0 < times c.args.name l) (sym (list ∙ ap (λ (p : OfPass). p.held) c.from.view_is)) c.requires.held

pub invariant_of-from : goal.invariant_of-from
invariant_of-from g c = (visited_give c.from.inside.number c.to.inside.number c.args.name _ _ c.take_seat-one.result.me c.take_seat-other.result.me c.args.room.now c.enter.new.self c.enter-2.new.self c.change_give.new.room c.leave-other.new.self c.leave-one.result.me c.leave-other.result.me c.into_badge.result.views c.into_badge-2.result.views c.from.invariant.numbered c.from.invariant.no_path c.to.invariant.numbered c.to.invariant.no_path c.take_seat-one.ensures.1 c.take_seat-other.ensures.1 c.enter.ensures.room c.enter-2.ensures.room c.enter-2.ensures.told c.change_give.ensures c.leave-other.ensures.pass.1 c.leave-other.ensures.pass.2 c.leave-other.ensures.room c.leave-one.ensures.pass.1 c.leave-one.ensures.pass.2 c.into_badge.ensures.2 c.into_badge-2.ensures.2).1

pub invariant_of-to : goal.invariant_of-to
invariant_of-to g c = (visited_give c.from.inside.number c.to.inside.number c.args.name _ _ c.take_seat-one.result.me c.take_seat-other.result.me c.args.room.now c.enter.new.self c.enter-2.new.self c.change_give.new.room c.leave-other.new.self c.leave-one.result.me c.leave-other.result.me c.into_badge.result.views c.into_badge-2.result.views c.from.invariant.numbered c.from.invariant.no_path c.to.invariant.numbered c.to.invariant.no_path c.take_seat-one.ensures.1 c.take_seat-other.ensures.1 c.enter.ensures.room c.enter-2.ensures.room c.enter-2.ensures.told c.change_give.ensures c.leave-other.ensures.pass.1 c.leave-other.ensures.pass.2 c.leave-other.ensures.room c.leave-one.ensures.pass.1 c.leave-one.ensures.pass.2 c.into_badge.ensures.2 c.into_badge-2.ensures.2).3

pub returns-clause-from : goal.returns-clause-from
returns-clause-from g c =
    let v = (visited_give c.from.inside.number c.to.inside.number c.args.name _ _ c.take_seat-one.result.me c.take_seat-other.result.me c.args.room.now c.enter.new.self c.enter-2.new.self c.change_give.new.room c.leave-other.new.self c.leave-one.result.me c.leave-other.result.me c.into_badge.result.views c.into_badge-2.result.views c.from.invariant.numbered c.from.invariant.no_path c.to.invariant.numbered c.to.invariant.no_path c.take_seat-one.ensures.1 c.take_seat-other.ensures.1 c.enter.ensures.room c.enter-2.ensures.room c.enter-2.ensures.told c.change_give.ensures c.leave-other.ensures.pass.1 c.leave-other.ensures.pass.2 c.leave-other.ensures.room c.leave-one.ensures.pass.1 c.leave-one.ensures.pass.2 c.into_badge.ensures.2 c.into_badge-2.ensures.2).0 in
    (ap (λ (h : Hand). h.held) v ∙ ap (λ (p : OfPass). without c.args.name p.held) c.from.view_is, ap (λ (h : Hand). h.gains) v ∙ ap (λ (p : OfPass). p.gains) c.from.view_is)

pub returns-clause-to : goal.returns-clause-to
returns-clause-to g c =
    let v = (visited_give c.from.inside.number c.to.inside.number c.args.name _ _ c.take_seat-one.result.me c.take_seat-other.result.me c.args.room.now c.enter.new.self c.enter-2.new.self c.change_give.new.room c.leave-other.new.self c.leave-one.result.me c.leave-other.result.me c.into_badge.result.views c.into_badge-2.result.views c.from.invariant.numbered c.from.invariant.no_path c.to.invariant.numbered c.to.invariant.no_path c.take_seat-one.ensures.1 c.take_seat-other.ensures.1 c.enter.ensures.room c.enter-2.ensures.room c.enter-2.ensures.told c.change_give.ensures c.leave-other.ensures.pass.1 c.leave-other.ensures.pass.2 c.leave-other.ensures.room c.leave-one.ensures.pass.1 c.leave-one.ensures.pass.2 c.into_badge.ensures.2 c.into_badge-2.ensures.2).2 in
    (ap (λ (h : Hand). h.held) v ∙ ap (λ (p : OfPass). push c.args.name (code_at c.args.name p.held) (hand_of c.to.inside.badge.views).held) c.from.view_is ∙ ap (λ (p : OfPass). push c.args.name (code_at c.args.name c.args.from.now.held) p.held) c.to.view_is, ap (λ (h : Hand). h.gains) v ∙ ap (λ (p : OfPass). p.gains) c.to.view_is)
