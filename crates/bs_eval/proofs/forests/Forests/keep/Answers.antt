use Rattle.std.proofs.Common.{◌<◌, ◌∙◌, length, refl, inl, inr, ⊎_elim, arith}
use Rattle.std.proofs.lemmas.Option.{slice_get_read}
use Rattle.bs_eval.proofs.ForestLists.{lists_set}
use Rattle.bs_eval.proofs.forests.Forests.keep.Goals as goal

pub returns : goal.returns
returns c = λ id n x h.
    let items = c.reach.new.self.lists.items in
    let room : c.place-2.result < length items = omega (arith, c.in_ok-reach.ensures.room, c.place.ensures, c.place-2.ensures) in
    ⊎_elim (λ a. inl (c.reach.ensures.same.stands id n x a)) (λ b. inr (b.0 ∙ c.place-2.ensures, b.1, b.2))
    (lists_set items c.place-2.result c.index_mut.result.now c.put.new.self c.args.forest c.args.product
    (slice_get_read items (length items) c.place-2.result c.index_mut.result.now refl room c.index_mut.ensures.value) c.put.ensures id n x h)
