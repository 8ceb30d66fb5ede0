use Rattle.std.proofs.Common.{◌≡◌}
use Rattle.std.specs.List.{AllByRecursion}
use Rattle.bs_series.specs.SeriesCode.{written_at}
use Rattle.bs_series.specs.Expressions.{series_at}
use Rattle.bs_eval.specs.Values.{IsMemory}
use Rattle.bs_eval.specs.Machine.{IsSound, IsTruthful, IsHeld}
use Rattle.bs_eval.proofs.tests.evaluated.Given as goal

abbrev pub invariant-questions : goal.invariant-questions
invariant-questions g l =
    IsSound l.tables l.book l.eval × IsTruthful l.tables l.book l.eval l.found
    × AllByRecursion (λ value. value.coef ≡ written_at l.tables (series_at l.book value.series) value.code) l.kept.items
    × IsHeld l.book l.memory l.eval × IsMemory l.tables l.book l.memory
