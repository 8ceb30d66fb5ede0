use Rattle.std.proofs.Common.{length}
use Rattle.bs_catalog.proofs.catalog.Catalog.+shelve_splits.Given as goal

abbrev pub decreases-shelve_splits : goal.decreases-shelve_splits
decreases-shelve_splits l = length l.code.now
