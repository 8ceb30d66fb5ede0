use Rattle.std.proofs.Common.{◌≡◌, ◌≤◌, ◌-◌, None, length, drop}
use Rattle.bs_split.specs.Walk.{last_pairs}
use Rattle.bs_split.proofs.walk.last_cut.Given as goal

abbrev pub invariant-nodes : goal.invariant-nodes
invariant-nodes l = record {
  within : l.node ≤ length l.code;
  found : last_pairs 0 l.node l.last (drop l.node l.code) (drop l.node l.kept) ≡ last_pairs 0 1 None (drop 1 l.code) (drop 1 l.kept);
}

abbrev pub decreases-nodes : goal.decreases-nodes
decreases-nodes l = length l.code - l.node
