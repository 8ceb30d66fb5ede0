use Rattle.std.proofs.Common.{◌≡◌, ap, sym, ◌∙◌, Some, slice_get, List}
use Rattle.std.proofs.lemmas.Option.{slice_get-get_or}
use Rattle.bs_tree.specs.CodeEquality.{same_code-Decides}
use Rattle.bs_catalog.specs.Shelf.{Code}
use Rattle.bs_catalog.proofs.arena.Arena.find.Goals as goal

pub returns-then-eq : goal.returns-then-eq
returns-then-eq c =
    let at = c.in_ok-number.field-0.now in
    let stored = c.in_ok-stored.stored.now in
    let there = c.in_ok-stored.ensures.lookup.3 in
    let same : stored ≡ c.args.code.now = (same_code-Decides stored c.args.code.now).0 (sym c.if-eq.ensures) in
    ap (λ (codes : List Code). slice_get codes at) (sym (c.deref.ensures.value ∙ c.self.view_is))
    ∙ slice_get-get_or c.deref.result.now at stored there.0 ∙ ap (λ (code : Code). Some code) (sym (there.1 stored) ∙ same)
