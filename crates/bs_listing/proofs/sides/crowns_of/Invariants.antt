use Rattle.std.proofs.Common.{◌≡◌, map, take}
use Rattle.bs_listing.specs.Sides.{crown_of}
use Rattle.bs_listing.proofs.sides.crowns_of.Given as goal

abbrev pub invariant-rows : goal.invariant-rows
invariant-rows l = l.crowns.items ≡ map crown_of (take l.place l.rows)
