-- The trees that a list of pairs (level, colour) is made of, as private functions speak of them.
--
--   forest_at level ps  == the trees at this level that the list begins with
--   subtree_of ps       == the tree that the list describes, where the root may have any level
--   level_below ps      == one more than the root's level
--   first_count ps      == how many pairs the first tree has: its root, and the greater levels behind it
--   IsSubtree ps        == the whole list is the level sequence of subtree_of ps, at its level, within the bounds of a code
--   raised ps           == the pairs, each one level less
--   tree_at ps node     == the tree whose root is at this place of the list, counted from 0
--   sizes ps            == the product of first_count over all ends of the list: each node's number of descendants, with itself
--   repeats first ps    == how often the list begins with `first`, one time behind the other
--   later_same ps       == how often the pairs of the first tree come again right behind it
--   class_sizes ps      == the product of one plus later_same over all ends of the list
--
-- Source: this project's own.
use Rattle.std.specs.Prelude.{◌≡◌, ℕ, zero, suc, ◌-◌, ◌*◌, ◌<◌, ◌≤◌, ◌==◌, ◌&&◌, Bool, cond, List, [], ◌∷◌, length, take, drop, map, nat_lt}
use Rattle.std.specs.List.{AllByRecursion, prefix_len, starts_with}
use Rattle.bs_tree.specs.Tree.{Forest, none, Tree}
use Rattle.bs_tree.specs.Canonical.{level_sequence_at}
use Rattle.bs_tree.specs.Code.{parse}
use Rattle.bs_tree.specs.declared.TheConstants.{MAX_NODES, COLOURS}

abbrev pub forest_at : ℕ → List (ℕ × ℕ) → Forest
forest_at level ps = (parse (length ps) level ps).found

abbrev pub subtree_of : List (ℕ × ℕ) → Tree
subtree_of [] = record { colour = 0; below = none }
subtree_of (p ∷ ps) = record { colour = p.1; below = forest_at (suc p.0) ps }

abbrev pub level_below : List (ℕ × ℕ) → ℕ
level_below [] = 0
level_below (p ∷ ps) = suc p.0

abbrev pub first_count : List (ℕ × ℕ) → ℕ
first_count [] = 0
first_count (p ∷ ps) = suc (prefix_len (λ q. nat_lt p.0 q.0) ps)

pub record IsSubtree (ps : List (ℕ × ℕ)) : Type 0 where
  pub some : 0 < length ps
  pub shape : level_sequence_at (level_below ps) (subtree_of ps).below ≡ drop 1 ps
  pub small : length ps ≤ MAX_NODES
  pub colours : AllByRecursion (λ p. p.1 < COLOURS) ps

abbrev pub tree_at : List (ℕ × ℕ) → ℕ → Tree
tree_at ps node = subtree_of (take (first_count (drop node ps)) (drop node ps))

abbrev pub raised : List (ℕ × ℕ) → List (ℕ × ℕ)
raised ps = map (λ p. (p.0 - 1, p.1)) ps

abbrev pub sizes : List (ℕ × ℕ) → ℕ
sizes [] = 1
sizes (p ∷ ps) = first_count (p ∷ ps) * sizes ps

abbrev pub same_pair : ℕ × ℕ → ℕ × ℕ → Bool
same_pair p q = (p.0 == q.0) && (p.1 == q.1)

-- at most `most` times
abbrev pub repeats_within : ℕ → List (ℕ × ℕ) → List (ℕ × ℕ) → ℕ
repeats_within zero first ps = 0
repeats_within (suc most) first ps = cond (starts_with same_pair ps first) (suc (repeats_within most first (drop (length first) ps))) 0

abbrev pub repeats : List (ℕ × ℕ) → List (ℕ × ℕ) → ℕ
repeats first ps = repeats_within (length ps) first ps

abbrev pub later_same : List (ℕ × ℕ) → ℕ
later_same ps = repeats (take (first_count ps) ps) (drop (first_count ps) ps)

abbrev pub class_sizes : List (ℕ × ℕ) → ℕ
class_sizes [] = 1
class_sizes (p ∷ ps) = suc (later_same (p ∷ ps)) * class_sizes ps
