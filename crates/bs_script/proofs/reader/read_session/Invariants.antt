use Rattle.std.proofs.Common.{◌≡◌, ◌≤◌, length}
use Rattle.bs_script.specs.declared.TheConstants.{MAX_COMMANDS}
use Rattle.bs_script.specs.Grammar.{rest_of}
use Rattle.bs_script.specs.Grammar.Place.{in_session}
use Rattle.bs_script.proofs.reader.read_session.Given as goal

abbrev pub invariant-lines : goal.invariant-lines
invariant-lines l = record {
  rest : rest_of l.fn.script (in_session l.fn.commands) l.fn.lines ≡ rest_of l.script (in_session l.commands) l.lines;
  less : length l.lines.left ≤ length l.fn.lines.left;
  few : length l.commands ≤ MAX_COMMANDS;
}

abbrev pub decreases-lines : goal.decreases-lines
decreases-lines l = length l.lines.left
