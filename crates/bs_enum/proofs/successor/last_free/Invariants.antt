use Rattle.std.proofs.Common.{◌+◌, ◌<◌, All, length, drop}
use Rattle.bs_enum.specs.Successor.{IsLeast}
use Rattle.bs_enum.proofs.successor.last_free.Given as goal

abbrev pub invariant-places : goal.invariant-places
invariant-places l = record { within : l.place < length l.pairs; behind : All IsLeast (drop (l.place + 1) l.pairs) }

abbrev pub decreases-places : goal.decreases-places
decreases-places l = l.place
