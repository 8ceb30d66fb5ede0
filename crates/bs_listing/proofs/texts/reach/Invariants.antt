use Rattle.std.proofs.Common.{◌+◌, ◌-◌, length}
use Rattle.bs_listing.specs.Texts.{HoldsTexts}
use Rattle.bs_listing.proofs.texts.reach.Given as goal

abbrev pub invariant-fill : goal.invariant-fill
invariant-fill l = HoldsTexts l.catalog.codes l.texts

abbrev pub decreases-fill : goal.decreases-fill
decreases-fill l = (l.number + 1) - length l.texts
