use Rattle.std.proofs.Common.{arith}
use Rattle.bs_frac.proofs.Gathered.{widened}
use Rattle.bs_frac.proofs.ratio.Ratio.widen.Goals as goal

pub returns : goal.returns
returns c =
    let s = c.self.inside in
    rw (← c.self.view_is) (widened s.negative s.num s.den c.quotient-times.result c.in-Some.num c.args.den c.self.invariant.2 (omega arith) c.in-Some.ensures.1 (omega arith))
