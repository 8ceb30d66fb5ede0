use Rattle.std.proofs.Common.{length}
use Rattle.bs_catalog.proofs.catalog.Catalog.+shelve_parts.Given as goal

abbrev pub decreases-shelve_parts : goal.decreases-shelve_parts
decreases-shelve_parts l = length l.code.now
