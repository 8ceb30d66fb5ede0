use Rattle.std.proofs.Common.{◌-◌, suc, length}
use Rattle.bs_eval.specs.Forests.{ListAdds}
use Rattle.bs_eval.proofs.forests.Products.reach.Given as goal

abbrev pub invariant-places : goal.invariant-places
invariant-places l = ListAdds l.initial.self l.self

abbrev pub decreases-places : goal.decreases-places
decreases-places l = suc l.place - length l.self.products.items
