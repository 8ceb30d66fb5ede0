use Rattle.std.proofs.Common.{◌≡◌, length}
use Rattle.bs_tree.specs.Code.{child_codes}
use Rattle.bs_core.proofs.Places.{IsTaking}
use Rattle.bs_core.proofs.hand.Hand.taken.Given as goal

abbrev pub invariant-children : goal.invariant-children
invariant-children l = (l.place-end ≡ length (child_codes l.code)) × IsTaking l.place (child_codes l.code) l.self l.names l.rest.items
