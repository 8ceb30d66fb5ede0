use Rattle.std.proofs.Common.{◌≡◌, ℕ, ◌+◌, ◌-◌, length}
use Rattle.bs_catalog.specs.Shelf.{rows_at}
use Rattle.bs_catalog.proofs.catalog.grow.Given as goal

abbrev pub invariant-fill : goal.invariant-fill
invariant-fill l = (n : ℕ) → rows_at l.lists.items n ≡ rows_at l.initial.lists.items n

abbrev pub decreases-fill : goal.decreases-fill
decreases-fill l = (l.place + 1) - length l.lists.items
