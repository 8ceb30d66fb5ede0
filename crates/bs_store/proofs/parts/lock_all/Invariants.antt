use Rattle.std.proofs.Common.{◌≡◌, length}
use Rattle.bs_store.proofs.parts.lock_all.Given as goal

abbrev pub invariant-desks : goal.invariant-desks
invariant-desks g l = length l.stripes.items ≡ length l.yielded
