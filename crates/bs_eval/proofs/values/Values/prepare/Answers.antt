use Rattle.bs_eval.proofs.Remembered.{direct_is}
use Rattle.bs_eval.proofs.values.Values.prepare.Goals as goal

pub returns-in-Some : goal.returns-in-Some
returns-in-Some c = λ tables are.
    let es = c.args.book.now in let cs = c.args.trees.now.codes in
    c.keep-done.ensures tables es cs are
    (direct_is tables es cs c.args.series c.args.tree c.code.result c.in-Some.value c.requires.series c.requires.tree c.code.ensures (c.in-Some.ensures tables))
