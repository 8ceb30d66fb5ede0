use Rattle.std.proofs.Common.{◌∙◌, ◌++◌, append-nil, ap}
use Rattle.atomic_table.specs.Table.{Me}
use Rattle.bs_store.specs.declared.view.View.{View}
use Rattle.bs_store.proofs.Steps.{joins}
use Rattle.bs_store.proofs.Endings.{head_of, tail_of, hands_push}
use Rattle.bs_store.proofs.close.join_passes.Goals as goal

pub join_seat-requires : goal.join_seat-requires
join_seat-requires c = let i = c.passes.invariant in (i.seat.0 ∙ c.requires.board.0, c.into_seat.ensures.0 ∙ head_of _ _ _ _ c.in-Some.ensures.steps.0 i.own, ap (λ m. m.1) c.into_seat.ensures.1, c.requires.board.1, joins _ _ _ _ _ _)

pub passes-preserved : goal.passes-preserved
passes-preserved c =
    let i = c.passes.invariant in
    let j = c.join_seat.ensures in
    let me = c.into_seat.ensures.1 in record {
      seat = (j.0 ∙ i.seat.0, ap (λ (m : Me (Unit {0}) View). m.0.tables) j.2 ∙ ap (λ (m : Me (Unit {0}) View). c.passes.all.me.0.tables ++ m.0.tables) me ∙ append-nil c.passes.all.me.0.tables ∙ i.seat.1);
      hands = hands_push c.args.all.me.0.hands c.passes.all.me.0.hands c.into_seat.result.me.0.hands c.join_seat.new.seat.me.0.hands c.passes.yielded c.in-Some.pass (ap (λ (m : Me (Unit {0}) View). m.0.hands) j.2) i.hands (ap (λ (m : Me (Unit {0}) View). m.0.hands) me);
      own = tail_of _ _ _ _ c.in-Some.ensures.steps.0 i.own;
    }
