use Rattle.std.proofs.Common.{◌≡◌, map, take, get_or}
use Rattle.bs_listing.proofs.sides.heads_of.Given as goal

abbrev pub invariant-rows : goal.invariant-rows
invariant-rows l = l.heads.items ≡ map (λ row. get_or row 0 0) (take l.place l.rows)
