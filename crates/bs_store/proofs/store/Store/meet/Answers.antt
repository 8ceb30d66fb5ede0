use Rattle.bs_store.proofs.TreeNames.{agree_on_trees}
use Rattle.bs_store.proofs.store.Store.meet.Goals as goal

pub returns-clause-trees : goal.returns-clause-trees
returns-clause-trees g c = agree_on_trees _ _ c.known.ensures.sound c.known-2.ensures.sound c.meet_at.ensures.agree
