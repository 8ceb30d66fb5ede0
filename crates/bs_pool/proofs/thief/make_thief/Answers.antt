use Rattle.bs_pool.proofs.Rules.{forks}
use Rattle.bs_pool.proofs.thief.make_thief.Goals as goal

pub another-pass-requires : goal.another-pass-requires
another-pass-requires c = forks _ _ c.requires
