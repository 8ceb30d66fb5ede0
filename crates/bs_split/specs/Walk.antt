-- The walk over the splittings by one word of keep and cut, as private functions speak of it.
--
--   cuts_from f w       == the ways to cut a list of trees from the one that the word w means on, in the order of cuts
--   last_cut f w        == the place of the last node that is cut while its parent is kept, in preorder from 0
--   advanced i w        == the word with keep at place i and cut behind it
--   cut_pairs k ps w    == of pairs (level, colour) and their letters: the codes of the trees that are cut off, the first k pairs left out
--   last_pairs k i last ps w == the place of the last node that is cut while its parent is kept, or last; the first pair has place i
--   left stage code w   == the items that are left
--
-- Source: this project's own.
use Rattle.std.specs.Prelude.{ℕ, zero, suc, ◌+◌, List, [], ◌∷◌, ◌++◌, map, take, drop, length, replicate, Bool, true, false, cond, Option, Some, None, option_map, nat_lt}
use Rattle.std.specs.List.{flat_map, prefix_len}
use Rattle.bs_tree.specs.Tree.{Forest, none, grow, nodes}
use Rattle.bs_tree.specs.Canonical.{canonical_sequence}
use Rattle.bs_tree.specs.Code.{tree_of}
use Rattle.bs_tree.specs.Subtrees.{tree_at}
use Rattle.bs_split.specs.Splitting.{Cuts, cut_off, keep, cuts, rooted, SplitCodes, codes_of, split_codes}
use Rattle.bs_split.specs.declared.splits.Stage.{Stage}
use Rattle.bs_split.specs.declared.splits.Stage.TheVariants.{Whole, Rooted, Done}

-- one row for each way to cut the children of a kept root, the first row begun within the later trees
abbrev pub rows_from : ℕ → List Cuts → List Cuts → List Cuts → List Cuts
rows_from c first later [] = []
rows_from c first later (k ∷ ks) = map (keep c k) first ++ flat_map (λ j. map (keep c j) later) ks

abbrev pub cuts_from : Forest → List Bool → List Cuts
cuts_from none w = record { kept = none; cut = [] } ∷ []
cuts_from (grow c kids rest) [] = []
cuts_from (grow c kids rest) (b ∷ w) =
    let later = cuts_from rest (drop (nodes kids) w) in
    cond b
    (rows_from c later (cuts rest) (cuts_from kids (take (nodes kids) w)))
    (map (cut_off (record { colour = c; below = kids })) later ++ flat_map (λ k. map (keep c k) (cuts rest)) (cuts kids))

abbrev pub or_else : Option ℕ → Option ℕ → Option ℕ
or_else None other = other
or_else (Some i) other = Some i

abbrev pub last_cut : Forest → List Bool → Option ℕ
last_cut none w = None
last_cut (grow c kids rest) [] = None
last_cut (grow c kids rest) (b ∷ w) =
    or_else (option_map (λ i. suc (nodes kids + i)) (last_cut rest (drop (nodes kids) w)))
    (cond b (option_map (λ i. suc i) (last_cut kids (take (nodes kids) w))) (Some 0))

abbrev pub advanced : ℕ → List Bool → List Bool
advanced i [] = []
advanced zero (b ∷ w) = true ∷ replicate (length w) false
advanced (suc i) (b ∷ w) = b ∷ advanced i w

-- ---- over pairs
abbrev pub cut_pairs : ℕ → List (ℕ × ℕ) → List Bool → List (List (ℕ × ℕ))
cut_pairs skip [] w = []
cut_pairs skip (p ∷ ps) [] = []
cut_pairs (suc skip) (p ∷ ps) (b ∷ w) = cut_pairs skip ps w
cut_pairs zero (p ∷ ps) (true ∷ w) = cut_pairs zero ps w
cut_pairs zero (p ∷ ps) (false ∷ w) = canonical_sequence (tree_at (p ∷ ps) 0) ∷ cut_pairs (prefix_len (λ q. nat_lt p.0 q.0) ps) ps w

abbrev pub last_pairs : ℕ → ℕ → Option ℕ → List (ℕ × ℕ) → List Bool → Option ℕ
last_pairs skip place last [] w = last
last_pairs skip place last (p ∷ ps) [] = last
last_pairs (suc skip) place last (p ∷ ps) (b ∷ w) = last_pairs skip (suc place) last ps w
last_pairs zero place last (p ∷ ps) (true ∷ w) = last_pairs zero (suc place) last ps w
last_pairs zero place last (p ∷ ps) (false ∷ w) = last_pairs (prefix_len (λ q. nat_lt p.0 q.0) ps) (suc place) (Some place) ps w

-- ---- what is left
abbrev pub left : Stage → List (ℕ × ℕ) → List Bool → List SplitCodes
left Whole code w = split_codes code
left Rooted code w = let t = tree_of code in map (λ k. codes_of (rooted t.colour k)) (cuts_from t.below (drop 1 w))
left Done code w = []
