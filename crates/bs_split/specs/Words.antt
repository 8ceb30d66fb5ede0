-- The splittings of a tree again, by words of keep and cut: one letter for each node below the root, in preorder.
--
--   words n            == all words of n letters in lexicographic order, cut (false) before keep (true)
--   is_choice f w      == below a node that is cut no letter of w is keep, so that no two words cut alike
--   cuts_by f w        == the nodes whose letter is keep stay, each other one is cut off with all below it
--   splits_by_words t  == nothing kept, then one item for each word that is a choice, in the order of the words
--
-- What one keep and one cut do to the trees below a node is taken over from the first definition (`keep`, `cut_off`); of its own
-- this list has that an item is a word, which words count, and their order.
--
-- Source: this project's own.
use Rattle.std.specs.Prelude.{◌≡◌, ℕ, zero, suc, List, [], ◌∷◌, ◌++◌, map, take, drop, Bool, true, false, cond, ◌&&◌, not, None, refl}
use Rattle.std.specs.List.{filter}
use Rattle.bs_tree.specs.Tree.{Forest, none, grow, Tree, nodes}
use Rattle.bs_tree.specs.Canonical.{canonical_of}
use Rattle.bs_split.specs.Splitting.{Cuts, cut_off, keep, Split, rooted}

abbrev pub words : ℕ → List (List Bool)
words zero = [] ∷ []
words (suc n) = map (λ w. false ∷ w) (words n) ++ map (λ w. true ∷ w) (words n)

abbrev pub no_keep : List Bool → Bool
no_keep [] = true
no_keep (b ∷ w) = not b && no_keep w

abbrev pub is_choice : Forest → List Bool → Bool
is_choice none w = true
is_choice (grow c kids rest) [] = true
is_choice (grow c kids rest) (b ∷ w) =
    cond b (is_choice kids (take (nodes kids) w)) (no_keep (take (nodes kids) w)) && is_choice rest (drop (nodes kids) w)

abbrev pub cuts_by : Forest → List Bool → Cuts
cuts_by none w = record { kept = none; cut = [] }
cuts_by (grow c kids rest) [] = record { kept = none; cut = [] }
cuts_by (grow c kids rest) (b ∷ w) =
    let later = cuts_by rest (drop (nodes kids) w) in
    cond b (keep c (cuts_by kids (take (nodes kids) w)) later) (cut_off (record { colour = c; below = kids }) later)

abbrev pub splits_by_words : Tree → List Split
splits_by_words t =
    record { kept = None; forest = canonical_of t ∷ [] }
    ∷ map (λ w. rooted t.colour (cuts_by t.below w)) (filter (is_choice t.below) (words (nodes t.below)))

two_letters : words 2 ≡ (false ∷ false ∷ []) ∷ (false ∷ true ∷ []) ∷ (true ∷ false ∷ []) ∷ (true ∷ true ∷ []) ∷ []
two_letters = refl
