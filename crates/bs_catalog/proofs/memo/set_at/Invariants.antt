use Rattle.std.proofs.Common.{◌≡◌, ℕ, ◌+◌, ◌-◌, get_or, length}
use Rattle.bs_catalog.proofs.memo.set_at.Given as goal

abbrev pub invariant-fill : goal.invariant-fill
invariant-fill l = (j : ℕ) → get_or l.row.items j 0 ≡ get_or l.initial.row.items j 0

abbrev pub decreases-fill : goal.decreases-fill
decreases-fill l = (l.place + 1) - length l.row.items
