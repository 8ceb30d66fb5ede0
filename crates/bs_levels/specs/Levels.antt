-- The tree that two words describe: one of levels, and perhaps one of colours.
--
--   is_valid ls                  == the first level is the least and occurs once, and each further level is at
--                                   most one more than the level before it
--   node_count o                 == how many levels there are, where they are valid
--   from_one ls                  == the levels counted so that the first is 1
--   colours_for n w              == the n colours that w writes; n times 0 where there is no w
--   Refusal                      == bad_levels, bad_colours or too_large
--   tree_of_words levels colours == the tree that the words describe, or why there is none
--
-- The refusals are tested in their order: bad_levels where the first word isn't a word of levels or they aren't
-- valid; bad_colours where the second isn't a word of colours or they aren't one a node; too_large where there are
-- more than MAX_NODES nodes.
--
-- Source: level sequences after Beyer and Hedetniemi (1980), where the first level may be any; the words are this
-- project's own.
-- The code counts the numbers of a word as it reads them, and keeps at most MAX_NODES pairs.
use Rattle.std.specs.Prelude.{◌≡◌, ℕ, suc, ◌-◌, Bool, true, false, cond, ◌==◌, ◌&&◌, nat_le, nat_lt, List, [], ◌∷◌, length, map, replicate, Option, Some, None, Result, Ok, Err, codes, refl}
use Rattle.std.specs.List.{list_all, zip}
use Rattle.bs_tree.specs.Tree.{Tree}
use Rattle.bs_tree.specs.Code.{tree_of}
use Rattle.bs_tree.specs.declared.TheConstants.{MAX_NODES}
use Rattle.bs_levels.specs.Words.{levels_of, colours_of, number_of}

-- after this level, each level is at most one more than the one before it
abbrev pub climbs_by_one : ℕ → List ℕ → Bool
climbs_by_one last [] = true
climbs_by_one last (l ∷ ls) = nat_le l (suc last) && climbs_by_one l ls

abbrev pub is_valid : List ℕ → Bool
is_valid [] = false
is_valid (l ∷ ls) = list_all (λ k. nat_lt l k) ls && climbs_by_one l ls

-- how many nodes the levels describe, where they are valid
abbrev pub node_count : Option (List ℕ) → Option ℕ
node_count None = None
node_count (Some ls) = cond (is_valid ls) (Some (length ls)) None

abbrev pub from_one : List ℕ → List ℕ
from_one [] = []
from_one (l ∷ ls) = map (λ k. suc k - l) (l ∷ ls)

-- the colours, where they are this many
abbrev pub one_each : ℕ → Option (List ℕ) → Option (List ℕ)
one_each n None = None
one_each n (Some cs) = cond (length cs == n) (Some cs) None

abbrev pub colours_for : ℕ → Option (List ℕ) → Option (List ℕ)
colours_for n None = Some (replicate n 0)
colours_for n (Some w) = one_each n (colours_of w)

pub data Refusal : Type 0 where
  bad_levels : Refusal
  bad_colours : Refusal
  too_large : Refusal

-- the tree of these levels, which are valid, and of its colours
abbrev pub tree_with : List ℕ → Option (List ℕ) → Result Tree Refusal
tree_with ls None = Err bad_colours
tree_with ls (Some cs) = cond (nat_lt MAX_NODES (length ls)) (Err too_large) (Ok (tree_of (zip (from_one ls) cs)))

abbrev pub tree_from : Option (List ℕ) → Option (List ℕ) → Result Tree Refusal
tree_from None colours = Err bad_levels
tree_from (Some ls) colours = cond (is_valid ls) (tree_with ls (colours_for (length ls) colours)) (Err bad_levels)

abbrev pub tree_of_words : List ℕ → Option (List ℕ) → Result Tree Refusal
tree_of_words levels colours = tree_from (levels_of levels) colours

any_first_level : tree_of_words (codes "5,6,6") None ≡ Ok (tree_of ((1, 0) ∷ (2, 0) ∷ (2, 0) ∷ []))
unfolding number_of
any_first_level = refl

jump : tree_of_words (codes "1,3") (Some (codes "0,4")) ≡ Err bad_levels
unfolding number_of
jump = refl

second_root : tree_of_words (codes "1,2,1") None ≡ Err bad_levels
unfolding number_of
second_root = refl

too_few : tree_of_words (codes "1,2") (Some (codes "0")) ≡ Err bad_colours
unfolding number_of
too_few = refl

no_such_colour : tree_of_words (codes "1,2") (Some (codes "0,4")) ≡ Err bad_colours
unfolding number_of
no_such_colour = refl
