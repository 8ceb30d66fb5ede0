use Rattle.std.proofs.Common.{◌≡◌, ◌++◌, length, take, drop}
use Rattle.bs_core.specs.Machine.{raise_in}
use Rattle.bs_core.proofs.table.Entries.raise.Given as goal

abbrev pub invariant-entries : goal.invariant-entries
invariant-entries l =
    (length l.self-inside.items.items ≡ length l.initial.self-inside.items.items)
    × (l.place-end ≡ length l.initial.self-inside.items.items)
    × (take l.place l.self-inside.items.items ++ raise_in l.slot (drop l.place l.self-inside.items.items) ≡ raise_in l.slot l.initial.self-inside.items.items)
