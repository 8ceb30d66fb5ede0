use Rattle.std.proofs.Common.{◌∙◌, ap, arith}
use Rattle.bs_tree.specs.Code.{tree_of}
use Rattle.bs_tree.specs.Numbers.{density}
use Rattle.bs_tree.proofs.Children.{code_sizes, code_density_fits, code_sizes_pos}
use Rattle.bs_tree.proofs.code.Code.density.Goals as goal

pub product_of_sizes-requires : goal.product_of_sizes-requires
product_of_sizes-requires c = code_density_fits c.pairs.result.now c.pairs.ensures.code

pub returns-clause-value : goal.returns-clause-value
returns-clause-value c = c.product_of_sizes.ensures ∙ code_sizes c.pairs.result.now c.pairs.ensures.code ∙ ap (λ s. density (tree_of s)) c.pairs.ensures.value

pub returns-clause-positive : goal.returns-clause-positive
returns-clause-positive c = omega (arith, c.product_of_sizes.ensures, code_sizes_pos c.pairs.result.now)
