use Rattle.std.proofs.Common.{◌≡◌, ◌+◌, ◌-◌, true, false, set, replicate}
use Rattle.std.proofs.Math.Seq.{paste}
use Rattle.bs_part.proofs.walk.cut_next.Given as goal

abbrev pub invariant-later : goal.invariant-later
invariant-later l = l.kept ≡ paste (set l.fn.kept l.node false) (l.node + 1) (replicate (l.place - (l.node + 1)) true) (l.place - (l.node + 1))
