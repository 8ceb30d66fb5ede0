use Rattle.std.proofs.Common.{sym, subst}
use Rattle.bs_catalog.specs.Shelf.{Shelf, Numbers}
use Rattle.bs_listing.proofs.TreeTexts.{holds_more}
use Rattle.bs_listing.proofs.scribe.Scribe.halves.Goals as goal

pub invariant_of-self : goal.invariant_of-self
invariant_of-self c = holds_more c.self.inside.catalog.codes c.halves.new.self.codes c.self.inside.texts c.halves.ensures.grows.codes c.self.invariant

pub returns-clause-some : goal.returns-clause-some
returns-clause-some c = λ code is. c.halves.ensures.some code (subst (λ (s : Shelf). Numbers s.codes c.args.number code) (sym c.self.view_is) is)
