use Rattle.std.proofs.Common.{◌≤◌, List, ◌++◌, ◌∙◌, sym, ap, subst}
use Rattle.atomic_table.specs.Table.{Me}
use Rattle.bs_store.specs.declared.view.Hand.{Hand}
use Rattle.bs_store.specs.declared.view.View.{View}
use Rattle.bs_store.specs.Rule.{hands_at, list_in, path_in}
use Rattle.bs_store.specs.Seats.{first_hand}
use Rattle.bs_store.proofs.Rooms.{inside_push, list_push, path_push, known_told}
use Rattle.bs_store.proofs.Steps.{joins, looks}
use Rattle.bs_store.proofs.room.Room.enter.Goals as goal

pub join_seat-requires : goal.join_seat-requires
join_seat-requires g c =
    let i = c.self.invariant in
    let b = c.requires.board in
    let p = c.requires.pass in
    (i.0 ∙ sym b.0, p.0 ∙ sym b.0, ap (λ m. m.1) p.1, b.1, joins _ _ _ _ _ _)

pub load-requires : goal.load-requires
load-requires g c =
    let i = c.self.invariant in
    let b = c.requires.board in
    (c.join_seat.ensures.0 ∙ i.0 ∙ sym b.0, b.1, looks _ _ _ _ _ _)

pub returns-clause-inside : goal.returns-clause-inside
returns-clause-inside g c =
    let h = first_hand c.args.pass.me.0.hands in
    let joined = ap (λ (m : Me (Unit {0}) View). m.0.hands) c.join_seat.ensures.2 ∙ ap (λ (m : Me (Unit {0}) View). c.self.inside.seat.me.0.hands ++ m.0.hands) c.requires.pass.1 in
    let hands = ap (λ (m : Me (Unit {0}) View). m.0.hands) c.load.ensures.2.0 ∙ joined in
    subst (λ (l : List Hand). 1 ≤ hands_at h.number l) (sym hands) (inside_push h c.self.inside.seat.me.0.hands)

pub returns-clause-held : goal.returns-clause-held
returns-clause-held g c =
    let h = first_hand c.args.pass.me.0.hands in
    let joined = ap (λ (m : Me (Unit {0}) View). m.0.hands) c.join_seat.ensures.2 ∙ ap (λ (m : Me (Unit {0}) View). c.self.inside.seat.me.0.hands ++ m.0.hands) c.requires.pass.1 in
    let hands = ap (λ (m : Me (Unit {0}) View). m.0.hands) c.load.ensures.2.0 ∙ joined in
    ap (list_in h.number) hands ∙ list_push h c.self.inside.seat.me.0.hands c.load.new.seat.me.0 c.load.ensures.2.1 hands

pub returns-clause-path : goal.returns-clause-path
returns-clause-path g c =
    let h = first_hand c.args.pass.me.0.hands in
    let joined = ap (λ (m : Me (Unit {0}) View). m.0.hands) c.join_seat.ensures.2 ∙ ap (λ (m : Me (Unit {0}) View). c.self.inside.seat.me.0.hands ++ m.0.hands) c.requires.pass.1 in
    let hands = ap (λ (m : Me (Unit {0}) View). m.0.hands) c.load.ensures.2.0 ∙ joined in
    ap (path_in h.number) hands ∙ path_push h c.self.inside.seat.me.0.hands c.load.new.seat.me.0 c.load.ensures.2.1 hands

pub returns-clause-told : goal.returns-clause-told
returns-clause-told g c = known_told c.load.new.seat.me.0 c.load.ensures.2.1
