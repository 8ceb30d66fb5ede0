use Rattle.std.proofs.lemmas.Slice.Eq.{slice_eq-Decides}
use Rattle.bs_tableau.proofs.Equal.{same_fraction-Decides}
use Rattle.bs_tableau.proofs.tableau.same_row.Goals as goal

pub returns : goal.returns
returns c = slice_eq-Decides same_fraction-Decides _ _ _ c.eq.ensures
