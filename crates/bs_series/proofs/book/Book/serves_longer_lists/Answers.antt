use Rattle.std.proofs.Common.{List, subst}
use Rattle.bs_series.specs.Series.{Series}
use Rattle.bs_series.specs.Fronts.{IsSameOverFronts}
use Rattle.bs_series.proofs.Longer.{book_over_fronts}
use Rattle.bs_series.proofs.book.Book.serves_longer_lists.Goals as goal

pub returns : goal.returns
returns c = subst (λ (es : List Series). IsSameOverFronts es) c.self.view_is (book_over_fronts c.self.inside.nodes.items c.self.invariant)
