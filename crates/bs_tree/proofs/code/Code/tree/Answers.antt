use Rattle.std.proofs.Common.{◌≡◌, ◌∙◌, ap}
use Rattle.std.proofs.lemmas.Result.{IfOk-weaker}
use Rattle.bs_tree.specs.Tree.{Tree}
use Rattle.bs_tree.specs.Code.{tree_of}
use Rattle.bs_tree.specs.Canonical.{level_sequence}
use Rattle.bs_tree.proofs.CodeFacts.{code_level_sequence, code_written}
use Rattle.bs_tree.proofs.code.Code.tree.Goals as goal

pub of_pairs-requires : goal.of_pairs-requires
of_pairs-requires c = code_level_sequence c.pairs.result.now c.pairs.ensures.code

pub returns-clause-sequence : goal.returns-clause-sequence
returns-clause-sequence c = IfOk-weaker c.of_pairs.result (λ (t : Tree). t ≡ tree_of c.pairs.result.now) (λ (t : Tree). level_sequence t ≡ c.args.self.now) (λ t e. ap level_sequence e ∙ code_written c.pairs.result.now c.pairs.ensures.code ∙ c.pairs.ensures.value) c.of_pairs.ensures
