use Rattle.std.proofs.Common.{sym, subst}
use Rattle.bs_frac.specs.Fraction.{SameFraction}
use Rattle.bs_tree.specs.Code.{tree_of}
use Rattle.bs_tableau.specs.ElementaryWeight.{elementary_weight}
use Rattle.bs_tableau.specs.Laws.{IfValue}
use Rattle.bs_tableau.proofs.CheckedWeights.{written_is_weight_law}
use Rattle.bs_weight.proofs.weights.Weights.weight.Goals as goal

pub returns-clause-elementary : goal.returns-clause-elementary
returns-clause-elementary c =
    let t = c.args.table.now in
    let tree = tree_of c.args.code.now in
    subst (λ v. IfValue v (λ x. SameFraction x (elementary_weight t tree))) (sym c.written_weight.ensures) (written_is_weight_law t c.colours.ensures.whole.begun tree)
