use Rattle.std.proofs.Common.{◌≡◌, ◌≤◌, ◌<◌, false, length}
use Rattle.bs_script.specs.declared.TheConstants.{MAX_TABLES}
use Rattle.bs_script.specs.Blocks.{has_name}
use Rattle.bs_script.specs.Grammar.{rest_of}
use Rattle.bs_script.specs.Grammar.Place.{in_table}
use Rattle.bs_script.proofs.reader.read_tableau.Given as goal

abbrev pub invariant-lines : goal.invariant-lines
invariant-lines l = record {
  rest : rest_of l.fn.script (in_table l.fn.name l.fn.builder) l.fn.lines ≡ rest_of l.script (in_table l.fn.name l.builder) l.lines;
  fresh : has_name l.script l.fn.name ≡ false;
  few : length l.script.tables < MAX_TABLES;
  less : length l.lines.left ≤ length l.fn.lines.left;
}

abbrev pub decreases-lines : goal.decreases-lines
decreases-lines l = length l.lines.left
