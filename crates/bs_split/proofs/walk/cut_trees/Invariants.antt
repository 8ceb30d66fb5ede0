use Rattle.std.proofs.Common.{◌≡◌, ◌<◌, ◌≤◌, ◌-◌, ◌++◌, length, drop}
use Rattle.bs_split.specs.Walk.{cut_pairs}
use Rattle.bs_split.proofs.walk.cut_trees.Given as goal

abbrev pub invariant-nodes : goal.invariant-nodes
invariant-nodes l = record {
  within : l.node ≤ length l.code;
  few : length l.forest < l.node;
  cut : l.forest ++ cut_pairs 0 (drop l.node l.code) (drop l.node l.kept) ≡ cut_pairs 0 (drop 1 l.code) (drop 1 l.kept);
}

abbrev pub decreases-nodes : goal.decreases-nodes
decreases-nodes l = length l.code - l.node
