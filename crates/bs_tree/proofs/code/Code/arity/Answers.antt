use Rattle.std.proofs.Common.{◌∙◌, ap, length, arith}
use Rattle.bs_tree.specs.Code.{child_codes}
use Rattle.bs_tree.proofs.Children.{children_counted, few_children}
use Rattle.bs_tree.proofs.code.Code.arity.Goals as goal

pub returns-clause-value : goal.returns-clause-value
returns-clause-value c = c.count_at.ensures ∙ children_counted c.pairs.result.now c.pairs.ensures.code ∙ ap (λ s. length (child_codes s)) c.pairs.ensures.value

pub returns-clause-small : goal.returns-clause-small
returns-clause-small c = omega (arith, c.count_at.ensures, children_counted c.pairs.result.now c.pairs.ensures.code, few_children c.pairs.result.now c.pairs.ensures.code)
