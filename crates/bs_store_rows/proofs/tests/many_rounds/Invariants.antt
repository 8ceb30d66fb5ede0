use Rattle.std.proofs.Common.{◌≡◌}
use Rattle.bs_store_rows.proofs.tests.many_rounds.Given as goal

abbrev pub invariant-rounds : goal.invariant-rounds
invariant-rounds g l = l.holder.store ≡ l.store.table
