use Rattle.std.proofs.Common.{◌≡◌, map, take}
use Rattle.bs_tableau.proofs.tableau.same_rows.Given as goal

abbrev pub invariant-rows : goal.invariant-rows
invariant-rows l = map (take l.stages) (take l.row l.left) ≡ map (take l.stages) (take l.row l.right)
