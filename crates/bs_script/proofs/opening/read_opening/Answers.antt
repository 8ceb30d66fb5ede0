use Rattle.std.proofs.Common.{◌∙◌, sym, ap}
use Rattle.bs_script.specs.Reading.{place_at, line_at}
use Rattle.bs_script.proofs.Moves.{moved-bad, moved-outside}
use Rattle.bs_script.proofs.opening.read_opening.Goals as goal

pub returns-then-has_bad_byte-clause-value : goal.returns-then-has_bad_byte-clause-value
returns-then-has_bad_byte-clause-value c = moved-bad c.args.script.now (place_at c.args.at_start) c.args.line.now (sym c.if-has_bad_byte.ensures)

pub returns-clause-value : goal.returns-clause-value
returns-clause-value c =
    moved-outside c.args.script.now c.args.at_start c.args.line.now (sym c.if-has_bad_byte.ensures)
    ∙ ap (line_at c.args.script.now c.args.at_start) (sym c.new.ensures) ∙ c.opening_in.ensures.value
