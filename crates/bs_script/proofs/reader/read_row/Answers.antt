use Rattle.std.proofs.Common.{◌≡◌, ◌≢◌, ◌∙◌, sym, ap, Ok, Err, length, rules}
use Rattle.bs_tableau.specs.Table.{row_count}
use Rattle.bs_script.specs.Grammar.Place.{in_table}
use Rattle.bs_script.proofs.Moves.{moved-bad, table_ends, table_goes_on, table_row, row_read, row_refused}
use Rattle.bs_script.proofs.reader.read_row.Goals as goal

pub returns-then-has_bad_byte-clause-value : goal.returns-then-has_bad_byte-clause-value
returns-then-has_bad_byte-clause-value c = λ s name. moved-bad s (in_table name c.args.builder.now) c.args.line.now (sym c.if-has_bad_byte.ensures)

pub returns-then-is_end-clause-value : goal.returns-then-is_end-clause-value
returns-then-is_end-clause-value c = λ s name.
    let full : length c.args.builder.now.rows ≡ row_count c.args.builder.now = search rules in
    table_ends s name c.args.builder.now c.args.line.now (sym c.if-has_bad_byte.ensures) full (sym c.if-is_end.ensures)

pub returns-else-is_end-clause-value : goal.returns-else-is_end-clause-value
returns-else-is_end-clause-value c = λ s name.
    let full : length c.args.builder.now.rows ≡ row_count c.args.builder.now = search rules in
    table_goes_on s name c.args.builder.now c.args.line.now (sym c.if-has_bad_byte.ensures) full (sym c.if-is_end.ensures)

pub returns-in-Ok-clause-value : goal.returns-in-Ok-clause-value
returns-in-Ok-clause-value c = λ s name.
    let room : length c.args.builder.now.rows ≢ row_count c.args.builder.now = search rules in
    table_row s name c.args.builder.now c.args.line.now (sym c.if-has_bad_byte.ensures) room
    ∙ row_read s name c.args.builder.now _ _ (sym c.line.ensures.outcome ∙ c.in-Ok.is)
    ∙ ap (λ t. Ok (s, in_table name t)) (sym c.line.ensures.rows)

pub returns-in-Err-clause-value : goal.returns-in-Err-clause-value
returns-in-Err-clause-value c = λ s name.
    let room : length c.args.builder.now.rows ≢ row_count c.args.builder.now = search rules in
    table_row s name c.args.builder.now c.args.line.now (sym c.if-has_bad_byte.ensures) room
    ∙ row_refused s name c.args.builder.now _ _ (sym c.line.ensures.outcome ∙ c.in-Err.is)
    ∙ ap (λ reason. Err reason) (sym c.reason_of.ensures)
