use Rattle.std.proofs.Common.{◌≡◌, ◌++◌, drop, length}
use Rattle.std.specs.List.{zip}
use Rattle.bs_levels.specs.Levels.{from_one}
use Rattle.bs_levels.proofs.nodes.node_pairs.Given as goal

abbrev pub invariant-loop-node : goal.invariant-loop-node
invariant-loop-node l =
    (length l.pairs.items ≡ l.node) × (l.pairs.items ++ zip (drop l.node (from_one l.levels)) (drop l.node l.colours) ≡ zip (from_one l.levels) l.colours)
