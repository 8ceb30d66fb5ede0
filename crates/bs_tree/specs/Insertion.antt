-- Level sequences put in canonical order in place, as private functions speak of them.
--
--   from_level l ps        == the pairs, their levels counted from 1 where l is the root's
--   greater_first ps t     == how many pairs the tree has that ps begins with, where it is greater than the tree of the pairs t; else 0
--   greater_count t ps     == how many pairs the trees have that ps begins with and that are greater than the tree of the pairs t
--   first_inserted ps      == ps, its first tree put behind the greater ones of those that follow it
--   inserted ps            == ps, the tree of each node so put, from the last node to the first
--
-- Source: insertion sort of the trees below each node; that it gives the canonical sequence is a law, not the definition.
use Rattle.std.specs.Prelude.{◌≡◌, ℕ, zero, suc, ◌+◌, ◌-◌, cond, List, [], ◌∷◌, ◌++◌, length, take, drop, map, refl}
use Rattle.std.specs.Ordering.{is_gt}
use Rattle.bs_tree.specs.Canonical.{sequence_cmp}
use Rattle.bs_tree.specs.Subtrees.{first_count}

abbrev pub from_level : ℕ → List (ℕ × ℕ) → List (ℕ × ℕ)
from_level l ps = map (λ p. (suc (p.0 - l), p.1)) ps

abbrev pub greater_first : List (ℕ × ℕ) → List (ℕ × ℕ) → ℕ
greater_first ps t = cond (is_gt (sequence_cmp (take (first_count ps) ps) t)) (first_count ps) 0

-- at most `most` trees; the first that isn't greater has no pairs counted, and neither has any behind it
abbrev pub greater_within : ℕ → List (ℕ × ℕ) → List (ℕ × ℕ) → ℕ
greater_within zero t ps = 0
greater_within (suc most) t ps =
    cond (is_gt (sequence_cmp (take (first_count ps) ps) t)) (first_count ps + greater_within most t (drop (first_count ps) ps)) 0

abbrev pub greater_count : List (ℕ × ℕ) → List (ℕ × ℕ) → ℕ
greater_count t ps = greater_within (length ps) t ps

-- the first n pairs put behind the next m
abbrev pub moved : ℕ → ℕ → List (ℕ × ℕ) → List (ℕ × ℕ)
moved n m ps = take m (drop n ps) ++ (take n ps ++ drop m (drop n ps))

abbrev pub first_inserted : List (ℕ × ℕ) → List (ℕ × ℕ)
first_inserted ps = moved (first_count ps) (greater_count (take (first_count ps) ps) (drop (first_count ps) ps)) ps

abbrev pub inserted : List (ℕ × ℕ) → List (ℕ × ℕ)
inserted [] = []
inserted (p ∷ ps) = first_inserted (p ∷ inserted ps)

-- a leaf goes behind the two greater trees
behind_two : first_inserted ((2, 0) ∷ (2, 1) ∷ (2, 0) ∷ (3, 0) ∷ (2, 0) ∷ []) ≡ (2, 1) ∷ (2, 0) ∷ (3, 0) ∷ (2, 0) ∷ (2, 0) ∷ []
behind_two = refl

-- the trees below two nodes
two_levels : inserted ((1, 0) ∷ (2, 0) ∷ (2, 0) ∷ (3, 0) ∷ (3, 1) ∷ []) ≡ (1, 0) ∷ (2, 0) ∷ (3, 1) ∷ (3, 0) ∷ (2, 0) ∷ []
two_levels = refl
