use Rattle.std.proofs.Common.{◌≡◌, ◌-◌, suc, arith}
use Rattle.bs_eval.specs.Terms.{factor_in}
use Rattle.bs_eval.proofs.TermFactors.{each_value}
use Rattle.bs_eval.proofs.term.Term.remembered.Goals as goal

pub returns-in-Each : goal.returns-in-Each
returns-in-Each c = λ tables es cs factor are there.
    let e : c.args.place ≡ suc (c.args.place - 1) = omega (arith, c.if-place-eq0.false) in
    each_value (λ v. v.now) tables es cs (factor_in es cs c.args.self.now.first) c.in-Each.series c.args.place (c.args.place - 1) c.tree_at.result e c.args.self.now.rest c.in-Each.trees c.in-Each.is c.tree_at.ensures
    c.recall.result (c.recall.ensures tables es cs are) factor there
