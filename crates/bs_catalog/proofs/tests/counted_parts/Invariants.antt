use Rattle.std.proofs.Common.{length}
use Rattle.bs_catalog.proofs.tests.counted_parts.Given as goal

abbrev pub decreases-items : goal.decreases-items
decreases-items g l = length l.parts
