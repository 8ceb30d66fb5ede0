use Rattle.std.proofs.Common.{◌≡◌, List, ℕ, sym, ◌∙◌, ap₂, subst}
use Rattle.bs_core.specs.Codes.{Code}
use Rattle.bs_core.specs.Machine.{code_at}
use Rattle.bs_frac.specs.Written.{checked}
use Rattle.bs_tableau.specs.Table.{Table}
use Rattle.bs_tableau.specs.WrittenWeight.{written_weight}
use Rattle.bs_tree.specs.Code.{tree_of}
use Rattle.bs_series.specs.Series.{method}
use Rattle.bs_series.specs.SeriesCode.{written_at}
use Rattle.bs_series.specs.Value.{table_at}
use Rattle.bs_store.specs.Seats.{OfPass}
use Rattle.bs_memo.specs.Entries.{IsValueOf}
use Rattle.bs_memo_rows.proofs.holder.keep_value.Goals as goal

pub keep-requires-clause-value : goal.keep-requires-clause-value
keep-requires-clause-value g c =
    let m = c.requires.method in
    let tables = g.N.MemoName.tables in
    let name = c.args.key.now.name in
    let held = c.read-code.new.pass.held in
    let code = code_at name held in
    let read : c.read-code.result ≡ code =
    c.read-code.ensures.code ∙ ap₂ (λ (n : Rattle.bs_core.specs.declared.name.Name.Name) (p : OfPass). code_at n p.held) c.name.ensures (sym c.read-code.ensures.pass) in
    let value : c.in-Some.coef ≡ written_at tables (method 0 m.colours) code =
    c.in-Some.ensures ∙ ap₂ (λ (ts : List Table) (x : Code). written_weight checked (table_at ts 0) (tree_of x)) c.tables.ensures read in
    let of_series : IsValueOf tables c.args.key.now.series code (written_at tables (method 0 m.colours) code) =
    subst (λ (bytes : List ℕ). IsValueOf tables bytes code (written_at tables (method 0 m.colours) code)) (sym m.is) (c.keys_tell_series.ensures tables (method 0 m.colours) code (tt, tt)) in
    subst (λ v. IsValueOf tables c.args.key.now.series code v) (sym value) of_series
