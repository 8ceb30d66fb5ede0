use Rattle.std.proofs.Common.{◌∙◌, ap, subst}
use Rattle.bs_io.specs.Outside.{AddsFront}
use Rattle.bs_top.proofs.Fronts.{AddsFront-at, on_err}
use Rattle.bs_top.proofs.run.write_texts.Goals as goal

pub returns-in_err-write_all-clause-front : goal.returns-in_err-write_all-clause-front
returns-in_err-write_all-clause-front g c =
    let front = subst (λ piece. AddsFront (g.K.Sink.written c.texts.sink) piece (g.K.Sink.written c.write_all.new.sink)) (c.deref.ensures.value ∙ ap (λ t. t.items) c.text-item.is) c.in_err-write_all.ensures.prefix in
    on_err _ (AddsFront-at (λ text. text.items) _ _ _ _ _ _ c.texts-test.true c.texts.invariant.written front)
