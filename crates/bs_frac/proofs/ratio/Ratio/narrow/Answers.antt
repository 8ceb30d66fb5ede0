use Rattle.std.proofs.Common.{◌≡◌, ℕ, ◌<◌, ◌*◌, arith, sym, subst}
use Rattle.bs_frac.proofs.WholeSums.{some_factor}
use Rattle.bs_frac.proofs.Gathered.{widened}
use Rattle.bs_frac.proofs.ratio.Ratio.narrow.Goals as goal

pub returns : goal.returns
returns c =
    let s = c.self.inside in let n = c.quotient-num.result in let d = c.quotient-den.result in
    let den : s.den ≡ d * c.args.by = omega arith in
    let some : 0 < d = (some_factor d c.args.by (subst (λ (i : ℕ). 0 < i) den c.self.invariant.2)).0 in
    rw (← c.self.view_is) (sym (widened s.negative n d c.args.by s.num s.den some c.requires (omega arith) den))
