use Rattle.std.proofs.Common.{◌∙◌, sym}
use Rattle.bs_script.specs.Grammar.Place.{in_session}
use Rattle.bs_script.proofs.Moves.{moved-bad, session_ends, session_full, session_goes_on}
use Rattle.bs_script.proofs.reader.read_command.Goals as goal

pub returns-then-has_bad_byte-clause-value : goal.returns-then-has_bad_byte-clause-value
returns-then-has_bad_byte-clause-value c = λ s commands e. moved-bad s (in_session commands) c.args.line.now (sym c.if-has_bad_byte.ensures)

pub returns-then-is_end-clause-value : goal.returns-then-is_end-clause-value
returns-then-is_end-clause-value c = λ s commands e. session_ends s commands c.args.line.now (sym c.if-has_bad_byte.ensures) (sym c.if-is_end.ensures)

pub returns-then-count-eq-MAX_COMMANDS-clause-value : goal.returns-then-count-eq-MAX_COMMANDS-clause-value
returns-then-count-eq-MAX_COMMANDS-clause-value c = λ s commands e. session_full s commands c.args.line.now (sym c.if-has_bad_byte.ensures) (sym c.if-is_end.ensures) (e ∙ c.if-count-eq-MAX_COMMANDS.true)

pub returns-else-count-eq-MAX_COMMANDS-clause-value : goal.returns-else-count-eq-MAX_COMMANDS-clause-value
returns-else-count-eq-MAX_COMMANDS-clause-value c = λ s commands e. session_goes_on s commands c.args.line.now (sym c.if-has_bad_byte.ensures) (sym c.if-is_end.ensures) (λ f. c.if-count-eq-MAX_COMMANDS.false (sym e ∙ f))
