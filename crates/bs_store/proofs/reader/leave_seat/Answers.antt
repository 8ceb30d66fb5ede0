use Rattle.std.proofs.Common.{List, [], ◌∙◌, refl, sym, ap, subst, map}
use Rattle.atomic_table.specs.Table.{Me}
use Rattle.bs_store.specs.declared.view.Hand.{Hand}
use Rattle.bs_store.specs.declared.view.View.{View}
use Rattle.bs_store.specs.Rule.{Known, view, lasts, pathed}
use Rattle.bs_store.specs.Seats.{first_hand, first_table}
use Rattle.bs_store.proofs.Readers.{leaves_on, known_on}
use Rattle.bs_store.proofs.reader.leave_seat.Goals as goal

pub split_seat-requires : goal.split_seat-requires
split_seat-requires g c =
    let b = c.requires.board in
    let v = c.args.seat.now.me.0 in
    (b.0, b.1, leaves_on _ _ _ c.args._name.stripe (first_table v.tables) v (first_hand (lasts v.hands)) c.args._name c.args._pending.now.items g.E.OnPath.path c.requires.table refl c.requires.last c.requires.there c.requires.path)

pub returns-clause-known : goal.returns-clause-known
returns-clause-known g c =
    let v = c.args.seat.now.me.0 in
    let is = ap (λ (m : Me (Unit {0}) View). m.0) c.split_seat.ensures.4 ∙ ap (λ (hs : List Hand). view [] (map (pathed g.E.OnPath.path) hs)) c.requires.last in
    subst Known (sym is) (known_on c.args._name.stripe (first_table v.tables) v (first_hand (lasts v.hands)) c.args._name c.args._pending.now.items g.E.OnPath.path c.requires.known c.requires.table refl c.requires.last c.requires.there c.requires.path)
