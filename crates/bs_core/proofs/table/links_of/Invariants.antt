use Rattle.std.proofs.Common.{◌≡◌, ◌++◌, length, drop}
use Rattle.bs_tree.specs.Code.{child_codes}
use Rattle.bs_core.specs.Machine.{linked}
use Rattle.bs_core.proofs.table.links_of.Given as goal

abbrev pub invariant-links : goal.invariant-links
invariant-links l = (l.arity ≡ length (child_codes l.code)) × (l.place-end ≡ length l.names) × (l.pairs.items ++ linked (drop l.place l.names) (drop l.place (child_codes l.code)) ≡ linked l.names (child_codes l.code))
