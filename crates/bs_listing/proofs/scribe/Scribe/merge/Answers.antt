use Rattle.bs_listing.proofs.TreeTexts.{holds_more}
use Rattle.bs_listing.proofs.scribe.Scribe.merge.Goals as goal

pub invariant_of-self : goal.invariant_of-self
invariant_of-self c = holds_more c.self.inside.catalog.codes c.merge.new.self.codes c.self.inside.texts c.merge.ensures.grows.codes c.self.invariant
