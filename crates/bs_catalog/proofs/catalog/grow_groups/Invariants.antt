use Rattle.std.proofs.Common.{◌≡◌, ℕ, ◌+◌, ◌-◌, length}
use Rattle.bs_catalog.specs.Forests.{groups_at}
use Rattle.bs_catalog.proofs.catalog.grow_groups.Given as goal

abbrev pub invariant-fill : goal.invariant-fill
invariant-fill l = (n : ℕ) → groups_at l.groups.items n ≡ groups_at l.initial.groups.items n

abbrev pub decreases-fill : goal.decreases-fill
decreases-fill l = (l.place + 1) - length l.groups.items
