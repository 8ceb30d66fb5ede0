use Rattle.std.proofs.Common.{◌<◌, length, get_or, [], sym, subst}
use Rattle.std.proofs.lemmas.Option.{slice_get-get_or}
use Rattle.bs_catalog.specs.Shelf.{Shelf, Code, Numbers, split_rows}
use Rattle.bs_listing.proofs.BySide.{rows_below, split_side}
use Rattle.bs_listing.proofs.scribe.Scribe.splits.Goals as goal

pub others_of-requires-clause-there : goal.others_of-requires-clause-there
others_of-requires-clause-there c =
    let old = c.self.inside.catalog.codes in
    let cs = c.make_splits.new.self.codes in
    let n = c.args.number in
    let lt : n < length old = subst (λ (s : Shelf). n < length s.codes) (sym c.self.view_is) c.requires in
    let code : Code = get_or old n [] in
    let is : Numbers cs n code = c.in_ok-make_splits.ensures.grows.codes n code (slice_get-get_or old n [] lt) in
    rows_below cs c.splits-rows.result.now (split_rows code) (c.splits-rows.ensures.rows code is)

pub returns-clause-are : goal.returns-clause-are
returns-clause-are c = λ code is.
    split_side c.args.end.now c.make_splits.new.self.codes c.splits-rows.result.now code c.in_ok-heads.heads.items c.in_ok-texts.texts (c.splits-rows.ensures.rows code is) c.in_ok-heads.ensures c.in_ok-texts.ensures.are
