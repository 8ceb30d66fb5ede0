use Rattle.std.proofs.Common.{◌+◌, ◌<◌, ◌≤◌, All, length, drop}
use Rattle.bs_enum.proofs.successor.parent_of.Given as goal

abbrev pub invariant-nodes : goal.invariant-nodes
invariant-nodes l = record { within : l.place < length l.front; between : All (λ pair. l.level ≤ pair.0) (drop (l.place + 1) l.front) }

abbrev pub decreases-nodes : goal.decreases-nodes
decreases-nodes l = l.place
