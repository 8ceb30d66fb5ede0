use Rattle.bs_pool.proofs.Rules.{merges}
use Rattle.bs_pool.proofs.thief.Thief.come_home.Goals as goal

pub absorb-requires-clause-rule : goal.absorb-requires-clause-rule
absorb-requires-clause-rule c = merges _ _ _ _
