use Rattle.std.proofs.Common.{sym, ap, subst}
use Rattle.atomic_table.specs.Table.{Me}
use Rattle.bs_store.specs.declared.view.View.{View}
use Rattle.bs_store.specs.Rule.{Known}
use Rattle.bs_store.proofs.Makes.{deals_pass, known_pass}
use Rattle.bs_store.proofs.parts.next_pass.Goals as goal

pub split_seat-seat-requires : goal.split_seat-seat-requires
split_seat-seat-requires c = (c.requires.board.0, c.requires.board.1, deals_pass _ _ _ _)

pub returns-clause-maker : goal.returns-clause-maker
returns-clause-maker c =
    let e = c.split_seat-seat.ensures in
    (e.0, e.2, subst Known (sym (ap (λ (m : Me (Unit {0}) View). m.0) e.2)) (known_pass _ c.requires.known).0)
