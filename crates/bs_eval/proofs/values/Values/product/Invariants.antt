use Rattle.std.proofs.Common.{List, map, take}
use Rattle.bs_frac.specs.Gathered.{IsProductOf}
use Rattle.bs_tableau.specs.Table.{Table}
use Rattle.bs_series.specs.Series.{Series}
use Rattle.bs_series.specs.SeriesCode.{Code, written_at}
use Rattle.bs_series.specs.Expressions.{series_at}
use Rattle.bs_eval.specs.Terms.{code_at}
use Rattle.bs_eval.specs.Values.{AreValues}
use Rattle.bs_eval.proofs.values.Values.product.Given as goal

abbrev pub invariant-trees : goal.invariant-trees
invariant-trees l =
    (tables : List Table) (es : List Series) (cs : List Code) → AreValues tables es cs l.self → IsProductOf l.product (map (λ tree. written_at tables (series_at es l.series) (code_at cs tree)) (take l.place l.trees))
