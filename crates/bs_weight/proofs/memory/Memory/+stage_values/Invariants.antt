use Rattle.std.proofs.Common.{◌≡◌, ℕ, ◌<◌, length}
use Rattle.bs_tree.specs.Code.{tree_of}
use Rattle.bs_weight.specs.Walk.{stage_in}
use Rattle.bs_weight.proofs.Children.{of_first}
use Rattle.bs_weight.proofs.memory.Memory.+stage_values.Given as goal

abbrev pub decreases-stage_values : goal.decreases-stage_values
decreases-stage_values l = length l.code.now

abbrev pub invariant-children : goal.invariant-children
invariant-children l = record {
  same : l.self ≡ l.fn.self;
  values : (i : ℕ) → i < l.fn.self.stages → stage_in l.values i ≡ of_first l.fn.self (tree_of l.code).below i l.place;
}
