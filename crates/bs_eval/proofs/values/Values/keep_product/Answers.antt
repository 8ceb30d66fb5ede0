use Rattle.std.proofs.Common.{refl}
use Rattle.bs_eval.proofs.Remembered.{values_product, forest_is}
use Rattle.bs_eval.proofs.values.Values.keep_product.Goals as goal

pub returns-in-Some : goal.returns-in-Some
returns-in-Some c = λ tables are.
    let es = c.args.book.now in let cs = c.args.trees.now.codes in
    let now = c.prepare_all.ensures tables are in
    values_product tables es cs c.prepare_all.new.self _ c.args.series c.args.forest c.in-Some.product now
    (forest_is tables es cs c.args.series c.args.forest c.args.parts.now c.in-Some.product c.requires.series c.requires.forest c.requires.same (c.in-Some.ensures tables es cs now)) refl refl c.keep-done.ensures
