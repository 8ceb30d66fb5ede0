use Rattle.std.proofs.Common.{Option, IfSome, subst}
use Rattle.bs_catalog.specs.Making.{AreHalves}
use Rattle.bs_catalog.specs.declared.catalog.Halves.{Halves}
use Rattle.bs_listing.proofs.parts.push_partitions.Goals as goal

pub push_halved-requires : goal.push_halved-requires
push_halved-requires g c =
    subst (λ (o : Option Halves). IfSome o (λ h. AreHalves c.halves.new.self.codes c.args.code h.child h.rest)) c.in-Some.is
    (c.in_ok-halves.ensures.some c.args.code c.in_ok-tree.ensures.is)
