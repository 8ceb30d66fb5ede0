-- All trees of an order, as the list of their canonical sequences.
--
--   is_canonical s   == s is the canonical sequence of a tree
--   pairs_down n k   == the pairs (level, colour) with level 1 to n and colour below k, in decreasing order
--   lists_of ps m    == all lists of m of these pairs, in the order in which the pairs stand
--   all_trees n k    == the canonical sequences among the lists of n pairs with level 1 to n and colour below k, in decreasing order
--   tree_count n k   == how many there are: the number of trees of n nodes with colours below k
--   trees_to n k     == the number of trees of 1 to n nodes
--   trees_up_to n k  == all trees of 1 to n nodes, by rising order
--
-- Source: Butcher (2021), the numbers of rooted trees; level sequences after Beyer and Hedetniemi (1980); colours and this
-- list are this project's own. That is_canonical tells the canonical sequences, and that the list has each tree once in
-- decreasing order, are laws.
-- The code makes each sequence from the one before it, and never tries one that is not canonical.
use Rattle.std.specs.Prelude.{◌≡◌, ℕ, zero, suc, ◌+◌, ◌&&◌, List, [], ◌∷◌, ◌++◌, length, map, filter, flat_map, Bool, true, false, refl}
use Rattle.bs_tree.specs.Canonical.{canonical_sequence}
use Rattle.bs_tree.specs.Code.{has_valid_levels, tree_of, same_code}

-- valid levels, and the canonical sequence of the tree that they describe
abbrev pub is_canonical : List (ℕ × ℕ) → Bool
is_canonical s = has_valid_levels s && same_code (canonical_sequence (tree_of s)) s

-- n - 1, .., 1, 0
abbrev pub numbers_down : ℕ → List ℕ
numbers_down zero = []
numbers_down (suc n) = n ∷ numbers_down n

abbrev pub pairs_down : ℕ → ℕ → List (ℕ × ℕ)
pairs_down n k = flat_map (λ level. map (λ colour. (suc level, colour)) (numbers_down k)) (numbers_down n)

abbrev pub lists_of : List (ℕ × ℕ) → ℕ → List (List (ℕ × ℕ))
lists_of ps zero = [] ∷ []
lists_of ps (suc m) = flat_map (λ p. map (λ s. p ∷ s) (lists_of ps m)) ps

unfoldable pub all_trees : ℕ → ℕ → List (List (ℕ × ℕ))
all_trees n k = filter is_canonical (lists_of (pairs_down n k) n)

abbrev pub tree_count : ℕ → ℕ → ℕ
tree_count n k = length (all_trees n k)

abbrev pub trees_to : ℕ → ℕ → ℕ
trees_to zero k = 0
trees_to (suc n) k = trees_to n k + tree_count (suc n) k

abbrev pub trees_up_to : ℕ → ℕ → List (List (ℕ × ℕ))
trees_up_to zero k = []
trees_up_to (suc n) k = trees_up_to n k ++ all_trees (suc n) k

-- ---- examples
two_colours : all_trees 2 2 ≡ ((1, 1) ∷ (2, 1) ∷ []) ∷ ((1, 1) ∷ (2, 0) ∷ []) ∷ ((1, 0) ∷ (2, 1) ∷ []) ∷ ((1, 0) ∷ (2, 0) ∷ []) ∷ []
unfolding all_trees
two_colours = refl

order_three : all_trees 3 1 ≡ ((1, 0) ∷ (2, 0) ∷ (3, 0) ∷ []) ∷ ((1, 0) ∷ (2, 0) ∷ (2, 0) ∷ []) ∷ []
unfolding all_trees
order_three = refl

order_four : tree_count 4 1 ≡ 4
unfolding all_trees
order_four = refl

to_two_nodes : trees_up_to 2 1 ≡ ((1, 0) ∷ []) ∷ ((1, 0) ∷ (2, 0) ∷ []) ∷ []
unfolding all_trees
to_two_nodes = refl
