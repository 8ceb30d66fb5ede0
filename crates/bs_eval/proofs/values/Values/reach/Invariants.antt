use Rattle.std.proofs.Common.{◌≡◌, ◌-◌, suc, length}
use Rattle.bs_eval.specs.Values.{ColumnsAdd}
use Rattle.bs_eval.proofs.values.Values.reach.Given as goal

abbrev pub invariant-columns : goal.invariant-columns
invariant-columns l = (l.self.flows ≡ l.initial.self.flows) × (l.self.forests ≡ l.initial.self.forests) × ColumnsAdd l.initial.self.columns.items l.self.columns.items

abbrev pub decreases-columns : goal.decreases-columns
decreases-columns l = suc l.place - length l.self.columns.items
