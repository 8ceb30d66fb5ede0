use Rattle.std.proofs.Common.{◌≡◌, ◌++◌, sym}
use Rattle.bs_make.specs.Draws.{next, drawn}
use Rattle.bs_make.specs.Made.{joined, question_lines, series_lines, derived_lines, coeff_lines, last_lines}
use Rattle.bs_make.proofs.Texts.{lines_more}
use Rattle.bs_make.proofs.make.write_further_commands.Goals as goal

pub returns-clause-written : goal.returns-clause-written
returns-clause-written c =
    let x = c.args.generator.now in
    let old = c.args.out.now.items in
    let q = question_lines (drawn 8 x) in
    let s = series_lines (drawn 3 (next x)) in
    let to_q : c.write_questions.new.out.items ≡ old ++ joined q = rw (sym c.draw.ensures.drawn) c.in_ok-write_questions.ensures in
    let to_s : c.write_series.new.out.items ≡ c.write_questions.new.out.items ++ joined s = rw (sym c.draw.ensures.next, sym c.draw-2.ensures.drawn) c.in_ok-write_series.ensures in
    lines_more old _ _ (q ++ s ++ derived_lines ++ coeff_lines 8 0) last_lines
    (lines_more old _ _ (q ++ s ++ derived_lines) (coeff_lines 8 0)
    (lines_more old _ _ (q ++ s) derived_lines
    (lines_more old _ _ q s to_q to_s)
    c.in_ok-write_derived.ensures)
    c.in_ok-write_coeffs.ensures)
    c.in_ok-write_last.ensures
