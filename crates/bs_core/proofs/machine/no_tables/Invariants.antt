use Rattle.std.proofs.Common.{◌≡◌, replicate}
use Rattle.bs_core.specs.Machine.{no_table}
use Rattle.bs_core.proofs.machine.no_tables.Given as goal

abbrev pub invariant-tables : goal.invariant-tables
invariant-tables l = l.tables.items ≡ replicate l.counter no_table
