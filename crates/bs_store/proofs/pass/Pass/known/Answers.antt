use Rattle.std.proofs.Common.{subst}
use Rattle.bs_store.specs.Seats.{OfPass}
use Rattle.bs_store.specs.Trees.{NamesDecideTrees}
use Rattle.bs_store.specs.Walks.{Sound}
use Rattle.bs_store.proofs.Rooms.{known_agree, known_sound}
use Rattle.bs_store.proofs.TreeNames.{agree_on_trees}
use Rattle.bs_store.proofs.pass.Pass.known.Goals as goal

pub returns-clause-sound : goal.returns-clause-sound
returns-clause-sound c = subst (λ (p : OfPass). Sound p.held) c.self.view_is (known_sound _ c.self.invariant.known)

pub returns-clause-trees : goal.returns-clause-trees
returns-clause-trees c =
    let known = c.self.invariant.known in
    let sound = known_sound _ known in
    subst (λ (p : OfPass). NamesDecideTrees p.held p.held) c.self.view_is (agree_on_trees _ _ sound sound (known_agree _ known))
