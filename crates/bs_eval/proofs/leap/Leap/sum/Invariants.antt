use Rattle.std.proofs.Common.{List, map, take}
use Rattle.bs_frac.specs.Gathered.{Gathers}
use Rattle.bs_catalog.specs.Gathered.{expanded}
use Rattle.bs_tableau.specs.Table.{Table}
use Rattle.bs_eval.specs.Values.{AreValues}
use Rattle.bs_eval.specs.Leaps.{key_term}
use Rattle.bs_eval.proofs.leap.Leap.sum.Given as goal

abbrev pub invariant-groups : goal.invariant-groups
invariant-groups l =
    ((tables : List Table) → AreValues tables l.book l.trees.codes l.initial.values → AreValues tables l.book l.trees.codes l.values)
    × ((tables : List Table) → AreValues tables l.book l.trees.codes l.initial.values → Gathers l.begun l.sum (map (key_term tables l.book l.trees.codes l.self.rule) (expanded (take l.place l.self.gathered.now))))
