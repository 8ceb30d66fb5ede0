use Rattle.std.proofs.Common.{◌≡◌, true}
use Rattle.bs_core.specs.Machine.{is_full_below}
use Rattle.bs_core.proofs.table.Entries.is_full_below.Given as goal

abbrev pub invariant-slots : goal.invariant-slots
invariant-slots l = is_full_below l.below l.self ≡ true
