-- Level sequences, and the canonical sequence of a tree.
--
--   level_sequence t             == the preorder list of pairs (level, colour), the root at level 1
--   sequence_cmp                 == their order: pairs by level first, lists lexicographically, a proper prefix smaller
--   IsCanonicalSequence t s      == s is the greatest level sequence among all trees isomorphic to t
--   canonical_sequence t         == that sequence, computed: the children of each node in decreasing order
--   canonical_of t               == the tree with its children so ordered
--
-- Source: level sequences after Beyer and Hedetniemi (1980); pairs with colours and the choice of the greatest
-- are this project's own. That sorting gives the greatest is a law, not the definition.
use Rattle.std.specs.Prelude.{◌≡◌, ℕ, suc, List, [], ◌∷◌, ◌++◌, Bool, cond, IsTrue}
use Rattle.std.specs.declared.cmp.Ordering.{Ordering}
use Rattle.std.specs.declared.cmp.Ordering.TheVariants.{Less, Equal, Greater}
use Rattle.std.specs.Ordering.{nat_cmp, ordering_then, is_gt, is_le}
use Rattle.std.specs.Cmp.Lexicographic.{slice_cmp}
use Rattle.bs_tree.specs.Tree.{Forest, none, grow, Tree}
use Rattle.bs_tree.specs.Isomorphic.{isomorphic}

-- the preorder list of levels and colours, where the roots are at this level
abbrev pub level_sequence_at : ℕ → Forest → List (ℕ × ℕ)
level_sequence_at level none = []
level_sequence_at level (grow c kids rest) = (level, c) ∷ (level_sequence_at (suc level) kids ++ level_sequence_at level rest)

abbrev pub level_sequence : Tree → List (ℕ × ℕ)
level_sequence t = (1, t.colour) ∷ level_sequence_at 2 t.below

-- pairs by level first
abbrev pub pair_cmp : ℕ × ℕ → ℕ × ℕ → Ordering
pair_cmp x y = ordering_then (nat_cmp x.0 y.0) (nat_cmp x.1 y.1)

-- lists lexicographically, a proper prefix being the smaller
abbrev pub sequence_cmp : List (ℕ × ℕ) → List (ℕ × ℕ) → Ordering
sequence_cmp xs ys = slice_cmp pair_cmp xs ys

-- the greatest level sequence among the trees that are isomorphic to t
pub record IsCanonicalSequence (t : Tree) (s : List (ℕ × ℕ)) : Type 0 where
  pub reached : (u : Tree) × IsTrue (isomorphic t u) × (level_sequence u ≡ s)
  pub greatest : (u : Tree) → IsTrue (isomorphic t u) → IsTrue (is_le (sequence_cmp (level_sequence u) s))

-- ---- by sorting
-- the order of level sequences, by trees
abbrev pub compare : Forest → Forest → Ordering
compare none none = Equal
compare none (grow d below more) = Less
compare (grow c kids rest) none = Greater
compare (grow c kids rest) (grow d below more) =
    ordering_then (ordering_then (nat_cmp c d) (compare kids below)) (compare rest more)

abbrev pub tree_cmp : Tree → Tree → Ordering
tree_cmp t u = ordering_then (nat_cmp t.colour u.colour) (compare t.below u.below)

abbrev pub is_above : Tree → Tree → Bool
is_above t u = is_gt (tree_cmp t u)

-- a tree put before the first that is not greater
abbrev pub insert : Tree → Forest → Forest
insert t none = grow t.colour t.below none
insert t (grow d below more) =
    cond (is_above (record { colour = d; below = below }) t) (grow d below (insert t more)) (grow t.colour t.below (grow d below more))

-- the children of each node in decreasing order
abbrev pub sorted : Forest → Forest
sorted none = none
sorted (grow c kids rest) = insert (record { colour = c; below = sorted kids }) (sorted rest)

abbrev pub canonical_of : Tree → Tree
canonical_of t = record { colour = t.colour; below = sorted t.below }

abbrev pub canonical_sequence : Tree → List (ℕ × ℕ)
canonical_sequence t = level_sequence (record { colour = t.colour; below = sorted t.below })
