-- The partitions of a tree again, by words of keep and cut: one letter for each node below the root, in preorder, for the edge above it.
--
--   words n           == all words of n letters in lexicographic order, keep (true) before cut (false)
--   pieces_by f w     == the edges whose letter is keep stay, each other one is cut
--   parts_by_words t  == one item for each word, in the order of the words
--
-- What one kept and one cut edge do to the pieces below a node is taken over from the first definition (`keep_edge`, `cut_edge`);
-- of its own this list has that an item is a word, and the order of the words.
--
-- Source: this project's own.
use Rattle.std.specs.Prelude.{◌≡◌, ℕ, zero, suc, List, [], ◌∷◌, ◌++◌, map, take, drop, Bool, true, false, cond, refl}
use Rattle.bs_tree.specs.Tree.{Forest, none, grow, Tree, nodes}
use Rattle.bs_part.specs.Partition.{Pieces, keep_edge, cut_edge, Part, rooted}

abbrev pub words : ℕ → List (List Bool)
words zero = [] ∷ []
words (suc n) = map (λ w. true ∷ w) (words n) ++ map (λ w. false ∷ w) (words n)

abbrev pub pieces_by : Forest → List Bool → Pieces
pieces_by none w = record { joined = none; hung = []; parts = [] }
pieces_by (grow c kids rest) [] = record { joined = none; hung = []; parts = [] }
pieces_by (grow c kids rest) (b ∷ w) =
    let k = pieces_by kids (take (nodes kids) w) in
    let later = pieces_by rest (drop (nodes kids) w) in
    cond b (keep_edge c k later) (cut_edge c k later)

abbrev pub parts_by_words : Tree → List Part
parts_by_words t = map (λ w. rooted t.colour (pieces_by t.below w)) (words (nodes t.below))

two_letters : words 2 ≡ (true ∷ true ∷ []) ∷ (true ∷ false ∷ []) ∷ (false ∷ true ∷ []) ∷ (false ∷ false ∷ []) ∷ []
two_letters = refl

-- of a root over a node of colour 1 with a leaf of colour 2 and over a leaf of colour 3, the first and the last edge are cut
cut_twice :
    pieces_by (grow 1 (grow 2 none none) (grow 3 none none)) (false ∷ true ∷ false ∷ [])
    ≡ record {
      joined = none;
      hung = record { colour = 0; below = none } ∷ record { colour = 0; below = none } ∷ [];
      parts = record { colour = 1; below = grow 2 none none } ∷ record { colour = 3; below = none } ∷ [];
    }
cut_twice = refl
