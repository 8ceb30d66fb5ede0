use Rattle.std.proofs.Common.{◌≡◌, ◌*◌, length, drop}
use Rattle.bs_tree.specs.Code.{child_codes}
use Rattle.bs_eval.specs.Spread.{spread, spreads}
use Rattle.bs_eval.proofs.direct.+arities.Given as goal

abbrev pub decreases-arities : goal.decreases-arities
decreases-arities l = length l.code.now

abbrev pub invariant-children : goal.invariant-children
invariant-children l = l.product * spreads (drop l.place (child_codes l.code)) ≡ spread l.code
