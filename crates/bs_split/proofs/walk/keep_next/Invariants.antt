use Rattle.std.proofs.Common.{◌≡◌, ◌+◌, ◌-◌, true, false, set, replicate}
use Rattle.std.proofs.Math.Seq.{paste}
use Rattle.bs_split.proofs.walk.keep_next.Given as goal

abbrev pub invariant-later : goal.invariant-later
invariant-later l = l.kept ≡ paste (set l.fn.kept l.node true) (l.node + 1) (replicate (l.place - (l.node + 1)) false) (l.place - (l.node + 1))
