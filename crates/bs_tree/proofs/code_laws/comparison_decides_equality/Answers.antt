use Rattle.bs_tree.specs.CodeEquality.{same_code-Decides}
use Rattle.bs_tree.proofs.code_laws.comparison_decides_equality.Goals as goal

pub returns : goal.returns
returns c = same_code-Decides
