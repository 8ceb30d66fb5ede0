use Rattle.std.proofs.Common.{◌≡◌, ℕ, ◌+◌, ◌-◌, length, map}
use Rattle.bs_catalog.specs.Memo.{entry}
use Rattle.bs_catalog.proofs.memo.grow.Given as goal

abbrev pub invariant-fill : goal.invariant-fill
invariant-fill l = (i j : ℕ) → entry (map (λ row. row.items) l.rows.items) i j ≡ entry (map (λ row. row.items) l.initial.rows.items) i j

abbrev pub decreases-fill : goal.decreases-fill
decreases-fill l = (l.place + 1) - length l.rows.items
