use Rattle.std.proofs.Common.{◌≡◌, ◌≤◌, ◌++◌, ◌∷◌, length, drop, replicate}
use Rattle.std.specs.List.{AllByRecursion}
use Rattle.bs_part.specs.Walk.{hung_pairs}
use Rattle.bs_part.proofs.walk.skeleton_pairs.Given as goal

abbrev pub invariant-nodes : goal.invariant-nodes
invariant-nodes l = record {
  few : length l.pairs ≤ l.node;
  all : length l.levels ≡ 17;
  low : AllByRecursion (λ d. d ≤ l.node) l.levels;
  found : l.pairs ++ hung_pairs l.levels (drop l.node l.code) (drop l.node l.kept) ≡ (1, 0) ∷ hung_pairs (replicate 17 1) (drop 1 l.code) (drop 1 l.kept);
}
