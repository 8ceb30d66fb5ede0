use Rattle.std.proofs.Common.{◌<◌, length, refl, sym, subst, arith}
use Rattle.std.proofs.lemmas.Option.{slice_get_read}
use Rattle.bs_eval.specs.Values.{IsValue}
use Rattle.bs_eval.proofs.Remembered.{values_keep, values_less}
use Rattle.bs_eval.proofs.values.Values.keep.Goals as goal

pub returns-in_err-reach : goal.returns-in_err-reach
returns-in_err-reach c = λ tables es cs are is. values_less tables es cs c.args.self.now c.reach.new.self are c.reach.ensures.flows c.reach.ensures.forests c.reach.ensures.same

pub returns : goal.returns
returns c = λ tables es cs are is.
    let items = c.reach.new.self.columns.items in
    let room : c.place-2.result < length items = omega (arith, c.in_ok-reach.ensures.room, c.place.ensures, c.place-2.ensures) in
    values_keep tables es cs c.args.self.now c.reach.new.self _ c.place-2.result c.args.tree c.args.value c.index_mut.result.now c.put.new.self are
    (subst (λ i. IsValue tables es cs i c.args.tree c.args.value) (sym c.place-2.ensures) is)
    c.reach.ensures.flows c.reach.ensures.forests c.reach.ensures.same
    (slice_get_read items (length items) c.place-2.result c.index_mut.result.now refl room c.index_mut.ensures.value)
    c.put.ensures refl refl refl
