use Rattle.std.proofs.Common.{◌≡◌, ◌≤◌, ◌++◌, ◌∷◌, length, drop}
use Rattle.bs_tree.specs.Canonical.{canonical_sequence}
use Rattle.bs_tree.specs.Pruned.{pruned}
use Rattle.bs_tree.specs.Subtrees.{tree_at}
use Rattle.bs_part.specs.Known.{AreKnown}
use Rattle.bs_part.specs.Walk.{part_pairs}
use Rattle.bs_part.proofs.walk.parts.Given as goal

abbrev pub invariant-nodes : goal.invariant-nodes
invariant-nodes l = record {
  few : length l.parts ≤ l.node;
  found : l.parts ++ part_pairs (drop l.node l.code) (drop l.node l.kept) ≡ canonical_sequence (pruned (tree_at l.code 0) (drop 1 l.kept)) ∷ part_pairs (drop 1 l.code) (drop 1 l.kept);
  known : AreKnown l.code l.kept l.known;
  room : length l.known ≡ length l.fn.known;
}
