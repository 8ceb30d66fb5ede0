-- Trees of which some nodes are cut off, by a word of letters.
--
--   kept_by f w      == what stays of a list of trees where each node has a letter of w, in preorder, and one whose letter is false is cut off with all below it
--   pruned t w       == a tree of whose nodes below the root this stays
--   kept_pairs k ps w == of pairs (level, colour) and their letters: those that stay, the first k left out, as private functions speak of them
--
-- Source: this project's own.
-- The code goes over the pairs once and leaves out each run of greater levels behind a false letter, in place of this recursion.
use Rattle.std.specs.Prelude.{◌≡◌, ℕ, zero, suc, List, [], ◌∷◌, take, drop, Bool, true, false, cond, nat_lt, refl}
use Rattle.std.specs.List.{prefix_len}
use Rattle.bs_tree.specs.Tree.{Forest, none, grow, Tree, nodes}

abbrev pub kept_by : Forest → List Bool → Forest
kept_by none w = none
kept_by (grow c kids rest) [] = none
kept_by (grow c kids rest) (b ∷ w) =
    let later = kept_by rest (drop (nodes kids) w) in
    cond b (grow c (kept_by kids (take (nodes kids) w)) later) later

abbrev pub pruned : Tree → List Bool → Tree
pruned t w = record { colour = t.colour; below = kept_by t.below w }

-- the second tree is cut off, and of the third the leaf
cut_twice :
    kept_by (grow 0 none (grow 1 (grow 0 none none) (grow 2 (grow 0 none none) none))) (true ∷ false ∷ true ∷ true ∷ false ∷ [])
    ≡ grow 0 none (grow 2 none none)
cut_twice = refl

abbrev pub kept_pairs : ℕ → List (ℕ × ℕ) → List Bool → List (ℕ × ℕ)
kept_pairs skip [] w = []
kept_pairs skip (p ∷ ps) [] = []
kept_pairs (suc skip) (p ∷ ps) (b ∷ w) = kept_pairs skip ps w
kept_pairs zero (p ∷ ps) (true ∷ w) = p ∷ kept_pairs zero ps w
kept_pairs zero (p ∷ ps) (false ∷ w) = kept_pairs (prefix_len (λ q. nat_lt p.0 q.0) ps) ps w
