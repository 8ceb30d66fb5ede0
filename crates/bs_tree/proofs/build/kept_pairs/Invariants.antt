use Rattle.std.proofs.Common.{◌≡◌, ◌≤◌, ◌-◌, ◌∷◌, ◌++◌, length, drop, get_or}
use Rattle.bs_tree.specs.Pruned.{kept_pairs}
use Rattle.bs_tree.proofs.build.kept_pairs.Given as goal

abbrev pub invariant-nodes : goal.invariant-nodes
invariant-nodes l = record {
  within : l.node ≤ length l.pairs;
  few : length l.rest ≤ l.node;
  kept : l.rest ++ kept_pairs 0 (drop l.node l.pairs) (drop l.node l.kept) ≡ get_or l.pairs 0 (0, 0) ∷ kept_pairs 0 (drop 1 l.pairs) (drop 1 l.kept);
}

abbrev pub decreases-nodes : goal.decreases-nodes
decreases-nodes l = length l.pairs - l.node
