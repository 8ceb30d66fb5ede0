use Rattle.std.proofs.Common.{List}
use Rattle.bs_tableau.specs.Table.{Table}
use Rattle.bs_eval.specs.Values.{AreValues}
use Rattle.bs_eval.proofs.values.Values.prepare_all.Given as goal

abbrev pub invariant-parts : goal.invariant-parts
invariant-parts l = (tables : List Table) → AreValues tables l.book l.trees.codes l.initial.self → AreValues tables l.book l.trees.codes l.self
