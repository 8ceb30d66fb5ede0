use Rattle.std.proofs.Common.{◌≡◌, ◌+◌, ◌-◌, ◌≤◌, length, drop}
use Rattle.bs_tree.specs.Insertion.{greater_count}
use Rattle.bs_tree.proofs.insertion.greater_count.Given as goal

abbrev pub invariant-greater : goal.invariant-greater
invariant-greater l = record {
  within : l.passed ≤ length l.later;
  counted : l.passed + greater_count l.tree (drop l.passed l.later) ≡ greater_count l.tree l.later;
}

abbrev pub decreases-greater : goal.decreases-greater
decreases-greater l = length l.later - l.passed
