use Rattle.std.proofs.Common.{◌≡◌, ℕ, ◌+◌, ◌<◌, length, drop, get_or}
use Rattle.bs_tree.specs.Subtrees.{first_count}
use Rattle.bs_part.proofs.walk.ends_of.Given as goal

abbrev pub invariant-nodes : goal.invariant-nodes
invariant-nodes l = record {
  room : length l.ends ≡ 16;
  found : (node : ℕ) → node < l.node → 1 < first_count (drop node l.code) → get_or l.ends node 0 ≡ node + first_count (drop node l.code);
}
