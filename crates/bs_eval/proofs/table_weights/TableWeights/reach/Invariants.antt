use Rattle.std.proofs.Common.{◌+◌, ◌-◌, length}
use Rattle.bs_eval.proofs.table_weights.TableWeights.reach.Given as goal

abbrev pub decreases-places : goal.decreases-places
decreases-places l = l.place + 1 - length l.self.each.items
