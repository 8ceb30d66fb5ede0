use Rattle.std.proofs.Common.{◌≡◌, ℕ, length, sym, ◌∙◌, ap, arith}
use Rattle.bs_frac.specs.declared.coef.Coef.TheVariants.{Value}
use Rattle.bs_tree.specs.Tree.{order}
use Rattle.bs_tree.specs.Code.{tree_of}
use Rattle.bs_tree.specs.SubtreeLaws.{code_sequence}
use Rattle.bs_series.specs.Value.{unit_fraction}
use Rattle.bs_series.proofs.Averages.{written_average}
use Rattle.bs_series.proofs.Planned.{length-level_sequence}
use Rattle.bs_eval.proofs.direct.average_value.Goals as goal

pub returns : goal.returns
returns c =
    let code = c.args.code.now in
    let is = c.order-order.ensures.code in
    let e : length code ≡ order (tree_of code) = ap length (sym (code_sequence code is)) ∙ length-level_sequence (tree_of code) in
    c.unit_fraction.ensures
    ∙ ap (λ (n : ℕ). Value (unit_fraction n)) c.arities.ensures.value
    ∙ sym (written_average (tree_of code) (omega (arith, e, is.small)))
