use Rattle.std.proofs.Common.{◌∙◌, ap, arith}
use Rattle.bs_tree.specs.Code.{tree_of}
use Rattle.bs_tree.specs.Numbers.{symmetry}
use Rattle.bs_tree.proofs.Classes.{code_classes, code_classes_fit, classes_pos}
use Rattle.bs_tree.proofs.code.Code.symmetry.Goals as goal

pub product_of_class_sizes-requires : goal.product_of_class_sizes-requires
product_of_class_sizes-requires c = code_classes_fit c.pairs.result.now c.pairs.ensures.code

pub returns-clause-value : goal.returns-clause-value
returns-clause-value c = c.product_of_class_sizes.ensures ∙ code_classes c.pairs.result.now c.pairs.ensures.code ∙ ap (λ s. symmetry (tree_of s)) c.pairs.ensures.value

pub returns-clause-positive : goal.returns-clause-positive
returns-clause-positive c = omega (arith, c.product_of_class_sizes.ensures, classes_pos c.pairs.result.now)
