use Rattle.std.proofs.Common.{◌-◌, suc, length}
use Rattle.bs_eval.specs.Forests.{ListsAdd}
use Rattle.bs_eval.proofs.forests.Forests.reach.Given as goal

abbrev pub invariant-lists : goal.invariant-lists
invariant-lists l = ListsAdd l.initial.self.lists.items l.self.lists.items

abbrev pub decreases-lists : goal.decreases-lists
decreases-lists l = suc l.place - length l.self.lists.items
