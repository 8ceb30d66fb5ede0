use Rattle.std.proofs.Common.{◌≡◌, ◌+◌, ◌*◌, ◌∙◌, sym, map, take, subst, arith, get_or, ℕ, ap}
use Rattle.bs_tableau.specs.Table.{Table, entry, first_row, matrix_entry}
use Rattle.bs_tableau.proofs.Entries.{entry-kept, place-within}
use Rattle.bs_tableau.proofs.tableau.Tableau.a.Goals as goal

pub returns : goal.returns
returns c =
    let s = c.self.inside in
    let rows = s.rows.items in
    let P : Table → Type 0 = λ t. get_or c.index.result.now c.args.column c.index-index-column.result ≡ matrix_entry t c.args.colour c.args.row c.args.column in
    let stages : s.stages ≡ c.args.self.now.stages = ap (λ (t : Table). t.stages) c.self.view_is in
    let colours : s.colours ≡ c.args.self.now.colours = ap (λ (t : Table). t.colours) c.self.view_is in
    let first : c.first_row.result ≡ c.args.colour * (s.stages + 1) = c.first_row.ensures ∙ ap (λ (t : Table). first_row t c.args.colour) (sym c.self.view_is) in
    let within = place-within rows s.stages s.colours c.args.colour c.args.row c.self.invariant.full (omega (arith, colours, c.requires.colour)) (omega (arith, stages, c.requires.row)) in
    let kept = entry-kept rows s.stages (c.first_row.result + c.args.row) c.args.column c.index.result.now c.index-index-column.result c.self.invariant.begun.each (omega (arith, within, first)) (omega (arith, stages, c.requires.column)) c.index.ensures in
    subst P c.self.view_is (kept ∙ ap (λ (n : ℕ). entry (map (take s.stages) rows) (n + c.args.row) c.args.column) first)
