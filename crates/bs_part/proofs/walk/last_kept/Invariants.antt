use Rattle.std.proofs.Common.{◌≡◌, ◌-◌, None, length, take, drop}
use Rattle.bs_part.specs.Walk.{last_place, letters}
use Rattle.bs_part.proofs.walk.last_kept.Given as goal

abbrev pub invariant-nodes : goal.invariant-nodes
invariant-nodes l = last_place l.node l.last (take (length l.code - l.node) (drop l.node l.kept)) ≡ last_place 1 None (letters l.code l.kept)
