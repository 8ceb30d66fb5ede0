use Rattle.std.proofs.Common.{◌≡◌, vec_len}
use Rattle.bs_pool.proofs.tests.many_jobs.Given as goal

abbrev pub invariant-loop-worker : goal.invariant-loop-worker
invariant-loop-worker g l = vec_len l.locals ≡ l.worker
