use Rattle.std.proofs.Common.{◌≡◌, length}
use Rattle.bs_script.specs.Grammar.{rest_of, script}
use Rattle.bs_script.specs.Reading.{place_at}
use Rattle.bs_script.proofs.reader.read.Given as goal

abbrev pub invariant-each : goal.invariant-each
invariant-each l = script l.bytes ≡ rest_of l.script (place_at l.at_start) l.lines

abbrev pub decreases-each : goal.decreases-each
decreases-each l = length l.lines.left
