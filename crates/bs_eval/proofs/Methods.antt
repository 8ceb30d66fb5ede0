-- The tableau of a method of a book that suits its tableaux.
use Rattle.std.proofs.Common.{◌≡◌, ℕ, ◌<◌, List, length, slice_index_or, sym, ◌∙◌, ap, subst}
use Rattle.std.proofs.lemmas.List.{get_or_default}
use Rattle.bs_frac.specs.Written.{checked}
use Rattle.bs_tree.specs.Code.{tree_of}
use Rattle.bs_tableau.specs.Table.{Table}
use Rattle.bs_tableau.specs.WrittenWeight.{written_weight}
use Rattle.bs_series.specs.Series.{Series, exact, method}
use Rattle.bs_series.specs.Value.{table_at, no_table}
use Rattle.bs_series.specs.SeriesCode.{Code, written_at}
use Rattle.bs_series.specs.Accepted.{IsSuitable, Suits, HasTable}
use Rattle.bs_series.specs.Expressions.{series_at}
use Rattle.bs_eval.proofs.Lists.{all_at}

pub table_in : (tables : List Table) (es : List Series) (i n k : ℕ) → Suits tables es → i < length es → series_at es i ≡ method n k → n < length tables
table_in tables es i n k suits h e =
    let a : HasTable tables (series_at es i) = (all_at (IsSuitable tables) es i (exact 0) suits h).table in
    let b : HasTable tables (method n k) = subst (HasTable tables) e a in b.0

pub weight_is : (tables : List Table) (es : List Series) (i n k : ℕ) (code : Code) (table : Table) → n < length tables → series_at es i ≡ method n k → table ≡ slice_index_or tables n table
    → written_weight checked table (tree_of code) ≡ written_at tables (series_at es i) code
weight_is tables es i n k code table h e is =
    let t : table ≡ table_at tables n = is ∙ get_or_default tables n table no_table h in
    ap (λ (x : Table). written_weight checked x (tree_of code)) t ∙ ap (λ (s : Series). written_at tables s code) (sym e)
