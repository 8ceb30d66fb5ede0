use Rattle.std.proofs.Common.{◌≡◌}
use Rattle.bs_store_rows.proofs.tests.intern_and_release.Given as goal

abbrev pub invariant-interns : goal.invariant-interns
invariant-interns g l = l.holder.store ≡ l.store.table

abbrev pub invariant-releases : goal.invariant-releases
invariant-releases g l = l.holder.store ≡ l.store.table
