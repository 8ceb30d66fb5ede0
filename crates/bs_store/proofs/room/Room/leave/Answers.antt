use Rattle.std.proofs.Common.{◌≡◌, List, [], ◌∙◌, sym, ap, subst}
use Rattle.bs_store.specs.Rule.{Known, view, lasts}
use Rattle.bs_store.specs.declared.view.Hand.{Hand}
use Rattle.bs_store.specs.declared.view.Numbered.{Numbered}
use Rattle.bs_store.specs.Seats.{InRoom, table_of, first_table}
use Rattle.bs_stripe.specs.Laws.{kept_of}
use Rattle.bs_store.proofs.Steps.{leaves}
use Rattle.bs_store.proofs.Rooms.{known_left, known_right}
use Rattle.bs_store.proofs.room.Room.leave.Goals as goal

pub split_seat-requires : goal.split_seat-requires
split_seat-requires g c =
    let i = c.self.invariant in
    let b = c.requires.board in
    (i.0 ∙ sym b.0, b.1, leaves _ _ _ _)

pub invariant_of-self : goal.invariant_of-self
invariant_of-self g c =
    let i = c.self.invariant in
    let e = c.split_seat.ensures in
    (e.0 ∙ i.0, ap (λ m. m.1) e.2 ∙ i.1, subst (λ (ts : List Numbered). ts ≡ table_of c.self.inside.number (first_table ts)) (sym (ap (λ m. m.0.tables) e.2)) i.2, subst (λ (ts : List Numbered). c.self.inside.stripe ≡ kept_of (first_table ts)) (sym (ap (λ m. m.0.tables) e.2)) i.3, subst Known (sym (ap (λ m. m.0) e.2)) (known_left _ i.4), i.5)

pub returns-clause-pass : goal.returns-clause-pass
returns-clause-pass g c =
    let i = c.self.invariant in
    let e = c.split_seat.ensures in
    let hands = ap (λ (r : InRoom). r.hands) c.self.view_is in
    (e.3 ∙ i.0, e.4 ∙ ap (λ (l : List Hand). (view [] (lasts l), [])) hands, subst Known (sym (ap (λ m. m.0) e.4)) (known_right _ i.4))
