use Rattle.std.proofs.Common.{◌≡◌, ◌-◌, ◌<◌, suc, arith, ap}
use Rattle.bs_eval.specs.Terms.{rest_length, factor_in}
use Rattle.bs_eval.proofs.TermFactors.{each_factor, turned_factor, power_factor, each_in, turned_in}
use Rattle.bs_eval.proofs.term.Term.factor.Goals as goal

pub tree_at-requires : goal.tree_at-requires
tree_at-requires c = let l = ap rest_length c.in-Each.is in omega (arith, l, c.requires, c.if-place-eq0.false)

pub tree_at-requires-in-Turned : goal.tree_at-requires-in-Turned
tree_at-requires-in-Turned c = let l = ap rest_length c.in-Turned.is in omega (arith, l, c.requires, c.if-place-eq0.false)

pub returns-in-Each-clause-is : goal.returns-in-Each-clause-is
returns-in-Each-clause-is c = λ es cs.
    let e : c.args.place ≡ suc (c.args.place - 1) = omega (arith, c.if-place-eq0.false) in
    each_factor es cs (factor_in es cs c.args.self.now.first) c.in-Each.series c.args.place (c.args.place - 1) c.tree_at.result e c.args.self.now.rest c.in-Each.trees c.in-Each.is c.tree_at.ensures

pub returns-in-Each-clause-known : goal.returns-in-Each-clause-known
returns-in-Each-clause-known c = λ n m t. each_in n m c.args.self.now.rest c.in-Each.series (c.args.place - 1) c.tree_at.result c.in-Each.trees c.in-Each.is c.tree_at.ensures t.behind

pub returns-in-Turned-clause-is : goal.returns-in-Turned-clause-is
returns-in-Turned-clause-is c = λ es cs.
    let e : c.args.place ≡ suc (c.args.place - 1) = omega (arith, c.if-place-eq0.false) in
    turned_factor es cs (factor_in es cs c.args.self.now.first) c.in-Turned.series c.args.place (c.args.place - 1) c.tree_at-in-Turned.result e c.args.self.now.rest c.in-Turned.trees c.in-Turned.is c.tree_at-in-Turned.ensures

pub returns-in-Turned-clause-known : goal.returns-in-Turned-clause-known
returns-in-Turned-clause-known c = λ n m t. turned_in n m c.args.self.now.rest c.in-Turned.series (c.args.place - 1) c.tree_at-in-Turned.result c.in-Turned.trees c.in-Turned.is c.tree_at-in-Turned.ensures t.behind

pub returns-in-Powers-clause-is : goal.returns-in-Powers-clause-is
returns-in-Powers-clause-is c = λ es cs.
    let l = ap rest_length c.in-Powers.is in
    power_factor es cs (factor_in es cs c.args.self.now.first) c.in-Powers.by c.in-Powers.count c.args.place c.args.self.now.rest (omega (arith, c.if-place-eq0.false)) (omega (arith, l, c.requires)) c.in-Powers.is
