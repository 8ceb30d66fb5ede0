use Rattle.std.proofs.Common.{◌≡◌, ◌≤◌, ◌+◌, ◌-◌, ◌^◌, min, drop}
use Rattle.bs_core.specs.Machine.{live}
use Rattle.bs_core.proofs.machine.live_in.Given as goal

abbrev pub invariant-tables : goal.invariant-tables
invariant-tables l = (l.live ≤ 2 ^ 64 - 1) × (min (l.live + live (drop l.table-index l.tables)) (2 ^ 64 - 1) ≡ min (live l.tables) (2 ^ 64 - 1))
