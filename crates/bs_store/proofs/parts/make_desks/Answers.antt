use Rattle.std.proofs.Common.{◌≡◌, ◌+◌, ◌-◌, [], ◌∷◌, ◌++◌, length, All, ◌∙◌, sym, ap, subst, arith, length-append}
use Rattle.atomic_table.specs.Table.{Me}
use Rattle.bs_store.specs.declared.view.View.{View}
use Rattle.bs_store.specs.Rule.{rest_of, new_tables}
use Rattle.bs_store.specs.Seats.{OfDesk, IsAt}
use Rattle.bs_store.proofs.Makes.{tables_step, one_more_desk}
use Rattle.bs_store.proofs.parts.make_desks.Goals as goal

pub next_desk-requires-clause-first : goal.next_desk-requires-clause-first
next_desk-requires-clause-first c = let i = c.stripes.invariant in (new_tables (c.stripes.number + 1) (c.args.stripes - (c.stripes.number + 1)), i.tables ∙ tables_step c.stripes.number c.args.stripes (omega arith))

pub stripes-preserved : goal.stripes-preserved
stripes-preserved c =
    let i = c.stripes.invariant in
    let e = c.next_desk.ensures in
    let added : c.push.new.self.items ≡ c.stripes.made.items ++ c.next_desk.result ∷ [] = c.in_ok-push.ensures.items in record {
      same = e.maker.0 ∙ i.same;
      known = e.maker.2;
      tables = ap (λ (m : Me (Unit {0}) View). m.0.tables) e.maker.1 ∙ ap rest_of (i.tables ∙ tables_step c.stripes.number c.args.stripes (omega arith));
      long = let l = i.long in ap length added ∙ length-append c.stripes.made.items (c.next_desk.result ∷ []) ∙ omega arith;
      made = subst (All (IsAt c.args.board.now.shared.table_id)) (sym added) (one_more_desk c.args.board.now.shared.table_id c.stripes.made.items c.next_desk.result i.made (ap (λ (d : OfDesk). d.table) e.desk));
    }
