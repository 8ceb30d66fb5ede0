use Rattle.std.proofs.Common.{◌≡◌, Some, slice_get, arith}
use Rattle.std.proofs.lemmas.Grind.{common_steps}
use Rattle.std.proofs.lemmas.Option.{gets}
use Rattle.bs_eval.proofs.Remembered.{recall_is}
use Rattle.bs_eval.proofs.values.Values.recall.Goals as goal

pub returns-in-Some : goal.returns-in-Some
returns-in-Some c = λ tables es cs are.
    let at : slice_get c.args.self.now.columns.items c.args.series ≡ Some c.in-Some.column.now = grind (arith, common_steps, gets, c.in-Some.ensures.lookup, c.deref.ensures.value, c.place.ensures) in
    recall_is (λ v. v.now) tables es cs c.args.self.now c.args.series c.args.tree c.in-Some.column.now c.get-in-Some.result are at c.get-in-Some.ensures
