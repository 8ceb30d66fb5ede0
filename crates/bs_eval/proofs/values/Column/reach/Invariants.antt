use Rattle.std.proofs.Common.{◌-◌, suc, length}
use Rattle.bs_eval.specs.Values.{ColumnAdds}
use Rattle.bs_eval.proofs.values.Column.reach.Given as goal

abbrev pub invariant-places : goal.invariant-places
invariant-places l = ColumnAdds l.initial.self l.self

abbrev pub decreases-places : goal.decreases-places
decreases-places l = suc l.place - length l.self.values.items
