use Rattle.std.proofs.Common.{◌≡◌, ◌+◌, ◌-◌, [], ◌∷◌, ◌++◌, length, ◌∙◌, sym, ap, subst, arith, length-append}
use Rattle.atomic_table.specs.Table.{Me}
use Rattle.bs_store.specs.declared.view.View.{View}
use Rattle.bs_store.specs.Rule.{rest_of, new_hands}
use Rattle.bs_store.specs.Seats.{OfPass, NewPasses, new_pass}
use Rattle.bs_store.proofs.Makes.{hands_step, one_more_pass}
use Rattle.bs_store.proofs.parts.make_passes.Goals as goal

pub next_pass-requires-clause-first : goal.next_pass-requires-clause-first
next_pass-requires-clause-first c = let i = c.passes.invariant in (new_hands (c.passes.number + 1) (c.args.passes - (c.passes.number + 1)), i.hands ∙ hands_step c.passes.number c.args.passes (omega arith))

pub passes-preserved : goal.passes-preserved
passes-preserved c =
    let i = c.passes.invariant in
    let e = c.next_pass.ensures in
    let me = e.maker.1 in
    let pushed = c.in_ok-push.ensures.items in
    let added : c.push.new.self.items ≡ c.passes.made.items ++ new_pass c.args.board.now.shared.table_id c.passes.number ∷ [] = pushed ∙ ap (λ (p : OfPass). c.passes.made.items ++ p ∷ []) e.pass in record {
      same = (e.maker.0 ∙ i.same.0, ap (λ (m : Me (Unit {0}) View). m.0.tables) me ∙ i.same.1, ap (λ (m : Me (Unit {0}) View). m.1) me ∙ i.same.2);
      known = e.maker.2;
      hands = ap (λ (m : Me (Unit {0}) View). m.0.hands) me ∙ ap rest_of (i.hands ∙ hands_step c.passes.number c.args.passes (omega arith));
      long = let l = i.long in ap length added ∙ length-append c.passes.made.items (new_pass c.args.board.now.shared.table_id c.passes.number ∷ []) ∙ omega arith;
      made = subst (NewPasses c.args.board.now.shared.table_id) (sym added) (one_more_pass c.args.board.now.shared.table_id c.passes.made.items c.passes.number i.long i.made);
    }
