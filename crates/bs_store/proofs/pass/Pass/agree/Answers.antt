use Rattle.std.proofs.Common.{subst}
use Rattle.bs_store.specs.Seats.{Agree, OfPass}
use Rattle.bs_store.proofs.Rooms.{known_agree}
use Rattle.bs_store.proofs.pass.Pass.agree.Goals as goal

pub returns : goal.returns
returns c = subst (λ (p : OfPass). Agree p.held) c.self.view_is (known_agree _ c.self.invariant.known)
