use Rattle.std.proofs.Common.{◌≡◌, ◌∙◌, [], refl, sym, ap, subst}
use Rattle.std.specs.List.{AllByRecursion}
use Rattle.bs_series.specs.SeriesCode.{Code, IsColouredCode, written_at}
use Rattle.bs_series.specs.Expressions.{series_at}
use Rattle.bs_series.specs.Series.{colours_of}
use Rattle.bs_eval.specs.Values.{AreValues}
use Rattle.bs_eval.specs.Frames.{IsPlaced}
use Rattle.bs_eval.specs.declared.memory.Memory.{Memory}
use Rattle.bs_eval.specs.declared.eval.Eval.{Eval}
use Rattle.bs_eval.specs.declared.eval.State.TheVariants.{Ended}
use Rattle.bs_eval.proofs.Memories.{values_grow, memory_grows}
use Rattle.bs_eval.proofs.Held.{code_is, number_within}
use Rattle.bs_eval.proofs.Answered.{looking, done, failed_with}
use Rattle.bs_eval.proofs.eval.Eval.begin.Goals as goal

pub returns-in_err-tree-clause-answers : goal.returns-in_err-tree-clause-answers
returns-in_err-tree-clause-answers c = λ tables h.
    let es = c.args.book.now in
    let m : Memory = record c.args.memory.now { trees = c.number.new.self } in
    let e : Eval = record c.args.self.now { state = Ended } in
    failed_with tables es c.args.self.now.asked m e c.from_residual.result c.from_residual.ensures.0 refl
    (record { frames = subst (AllByRecursion (IsPlaced es m)) (sym c.requires.first) tt; memory = memory_grows tables es c.args.memory.now m c.number.ensures.grows refl h })

pub known-requires-clause-tree : goal.known-requires-clause-tree
known-requires-clause-tree c = number_within c.number.new.self.codes c.in_ok-tree.tree c.args.self.now.asked.code c.in_ok-tree.ensures.is

pub known-requires-clause-coloured : goal.known-requires-clause-coloured
known-requires-clause-coloured c =
    let p = c.args.self.now.asked in
    subst (λ (code : Code). IsColouredCode (colours_of (series_at c.args.book.now p.series)) code) (sym (code_is c.number.new.self.codes c.in_ok-tree.tree p.code c.in_ok-tree.ensures.is)) c.requires.coloured

pub returns-in-Some-clause-answers : goal.returns-in-Some-clause-answers
returns-in-Some-clause-answers c = λ tables h.
    let es = c.args.book.now in
    let p = c.args.self.now.asked in
    let m : Memory = record c.args.memory.now { trees = c.number.new.self; values = c.known.new.self } in
    let e : Eval = record c.args.self.now { state = Ended } in
    let grown : AreValues tables es m.trees.codes c.args.memory.now.values = values_grow tables es c.args.memory.now.trees m.trees c.args.memory.now.values c.number.ensures.grows h.values in
    let v = c.in-Some.ensures.value tables grown in
    done tables es p m e c.in-Some.coef (v.value ∙ ap (written_at tables (series_at es p.series)) (code_is m.trees.codes c.in_ok-tree.tree p.code c.in_ok-tree.ensures.is)) refl
    (record { frames = subst (AllByRecursion (IsPlaced es m)) (sym c.requires.first) tt; memory = record { values = c.known.ensures.values tables grown } })

pub returns-in-None-clause-answers : goal.returns-in-None-clause-answers
returns-in-None-clause-answers c = λ tables h.
    let es = c.args.book.now in
    let p = c.args.self.now.asked in
    let m : Memory = record c.args.memory.now { trees = c.number.new.self; values = c.known.new.self } in
    let grown : AreValues tables es m.trees.codes c.args.memory.now.values = values_grow tables es c.args.memory.now.trees m.trees c.args.memory.now.values c.number.ensures.grows h.values in
    looking tables es p [] m c.look.new.self c.look.result p c.in_ok-tree.tree (ap (λ (e : Eval). e.asked) c.look.ensures.state) (ap (λ (e : Eval). e.frames.items) c.look.ensures.state ∙ c.requires.first)
    (ap (λ (e : Eval). e.state) c.look.ensures.state) refl (record { in_book = c.requires.known; looked = c.in-None.ensures.awaited.looked; coloured = c.requires.coloured }) c.in_ok-tree.ensures.is
    (record { frames = tt; memory = record { values = c.known.ensures.values tables grown } }) c.look.ensures.ask
