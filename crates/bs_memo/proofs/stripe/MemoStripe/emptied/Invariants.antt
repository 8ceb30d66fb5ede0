use Rattle.std.proofs.Common.{◌≡◌, length}
use Rattle.bs_memo.specs.Entries.{Fits}
use Rattle.bs_memo.proofs.stripe.MemoStripe.emptied.Given as goal

abbrev pub invariant-entries : goal.invariant-entries
invariant-entries g l = (l.pass.store ≡ g.N.StoreName.table) × Fits g.N.MemoName.tables l.pass.held l.cache.entries

abbrev pub decreases-entries : goal.decreases-entries
decreases-entries g l = length l.cache.entries
