use Rattle.std.proofs.Common.{◌∙◌, ap, sym, subst}
use Rattle.bs_frac.specs.Fraction.{SameFraction}
use Rattle.bs_frac.specs.Written.{checked}
use Rattle.bs_tree.specs.Code.{tree_of}
use Rattle.bs_tableau.specs.ElementaryWeight.{elementary_weight}
use Rattle.bs_tableau.specs.Laws.{IfValue}
use Rattle.bs_tableau.specs.WrittenWeight.{written_weight}
use Rattle.bs_tableau.proofs.CheckedWeights.{written_is_weight_law}
use Rattle.bs_weight.proofs.Steps.{whole_tree}
use Rattle.bs_weight.proofs.elementary.weight.Goals as goal

pub returns-clause-written : goal.returns-clause-written
returns-clause-written c =
    let t = c.args.table.now in
    c.root_sum.ensures.value
    ∙ whole_tree t c.pairs-pairs.result.now c.from.result c.ones-values.result c.multiply_children-behind.new.values c.multiply_children-behind.result.now
    c.pairs-pairs.ensures.code c.ones-values.ensures.value c.root_sum.ensures.begun.few_stages c.multiply_children-behind.ensures.values c.from.ensures
    ∙ ap (λ s. written_weight checked t (tree_of s)) c.pairs-pairs.ensures.value

pub returns-clause-elementary : goal.returns-clause-elementary
returns-clause-elementary c =
    let t = c.args.table.now in
    let tree = tree_of c.args.code.now in
    subst (λ v. IfValue v (λ x. SameFraction x (elementary_weight t tree))) (sym (returns-clause-written c)) (written_is_weight_law t c.root_sum.ensures.begun tree)
