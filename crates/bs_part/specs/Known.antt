-- Parts that are known from the items before, as private functions speak of them.
--
--   AreEnds code ends        == each node that is no leaf has the place behind its subtree
--   IsPart code kept node p  == p is the code of the part whose root is this node
--   AreKnown code kept known == what is known of a node, if anything, is its part
--   StaysKnown ends i old new == what is known stays, but for the nodes whose subtree ends behind place i
--
-- Source: this project's own.
-- The code keeps the part of a node from item to item, until an edge below it changes.
use Rattle.std.specs.Prelude.{◌≡◌, ℕ, ◌+◌, ◌<◌, ◌≤◌, List, length, drop, get_or, Bool, Option, Some, None}
use Rattle.bs_tree.specs.Canonical.{canonical_sequence}
use Rattle.bs_tree.specs.Subtrees.{first_count, tree_at}
use Rattle.bs_tree.specs.Pruned.{pruned}

abbrev pub AreEnds : List (ℕ × ℕ) → List ℕ → Type 0
AreEnds code ends = (node : ℕ) → node < length code → 1 < first_count (drop node code) → get_or ends node 0 ≡ node + first_count (drop node code)

abbrev pub IsPart : List (ℕ × ℕ) → List Bool → ℕ → List (ℕ × ℕ) → Type 0
IsPart code kept node part = part ≡ canonical_sequence (pruned (tree_at code node) (drop (node + 1) kept))

abbrev pub AreKnown : List (ℕ × ℕ) → List Bool → List (Option (List (ℕ × ℕ))) → Type 0
AreKnown code kept known = (node : ℕ) (part : List (ℕ × ℕ)) → node < length code → get_or known node None ≡ Some part → IsPart code kept node part

abbrev pub StaysKnown : List ℕ → ℕ → List (Option (List (ℕ × ℕ))) → List (Option (List (ℕ × ℕ))) → Type 0
StaysKnown ends place old new =
    (node : ℕ) (part : List (ℕ × ℕ)) → get_or new node None ≡ Some part → (get_or old node None ≡ Some part) × (get_or ends node 0 ≤ place)
