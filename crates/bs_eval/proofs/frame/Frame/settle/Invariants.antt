use Rattle.std.proofs.Common.{◌≡◌, ◌≤◌, List, Some}
use Rattle.bs_tableau.specs.Table.{Table}
use Rattle.bs_eval.specs.Terms.{step_in, term_length}
use Rattle.bs_eval.specs.Values.{AreValues}
use Rattle.bs_eval.specs.Frames.{ProductIs}
use Rattle.bs_eval.proofs.frame.Frame.settle.Given as goal

abbrev pub invariant-factors : goal.invariant-factors
invariant-factors l =
    (l.self.known ≡ l.place) × (l.self ≡ record l.initial.self { known = l.self.known; product = l.self.product })
    × ((tables : List Table) → AreValues tables l.book l.trees.codes l.initial.values → AreValues tables l.book l.trees.codes l.values)
    × ((tables : List Table) → AreValues tables l.book l.trees.codes l.initial.values → ProductIs tables l.book l.initial.self.product l.initial.self.known (Some (step_in l.book l.trees.codes l.term)) → ProductIs tables l.book l.self.product l.self.known (Some (step_in l.book l.trees.codes l.term)))
