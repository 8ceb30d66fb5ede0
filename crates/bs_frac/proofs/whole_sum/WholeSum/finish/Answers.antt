use Rattle.std.proofs.Common.{◌<◌, ◌≤◌, sym, ◌∙◌, ap, subst}
use Rattle.bs_frac.specs.Checked.{largest}
use Rattle.bs_frac.specs.Wholes.{ratio, number}
use Rattle.bs_frac.specs.Gathered.{Total}
use Rattle.bs_frac.proofs.Gathered.{gathered_is}
use Rattle.bs_frac.proofs.whole_sum.WholeSum.finish.Goals as goal

pub returns-clause-written : goal.returns-clause-written
returns-clause-written c = λ z ts us h s.
    let view = c.self.view_is in
    let some = subst (λ (w : Total). 0 < w.over) view c.self.invariant.3 in
    let over = subst (λ (w : Total). w.over ≤ largest) view c.self.invariant.2 in
    let magnitude = subst (λ (w : Total). w.magnitude ≤ largest) view c.self.invariant.1 in
    c.of_ratio.ensures ∙ ap number c.over.ensures ∙ ap (λ (w : Total). number (ratio w.top w.over)) view
    ∙ sym (gathered_is z c.args.self.now ts us h s some over magnitude)
