-- Partitions of a tree: each edge is kept or cut, and the parts that this leaves hang on a skeleton.
--
--   Pieces          == of the trees below a node: what stays in the node's part, the skeletons that hang below that part, the other parts
--   keep_edge c k p == the edge above a first root of colour c is kept; k comes of its children, p of the later trees
--   cut_edge c k p  == that edge is cut
--   pieces f        == all ways to keep or cut the edges above a list of trees and within it, in preorder, keep before cut
--   Part            == a skeleton, a tree of colour 0 with one node for each part, and the parts, by their roots in preorder
--   parts t         == the partitions of t, the choice at the second node varying slowest; each tree of an item is canonical
--   leaf            == the tree of one node of colour 0, the skeleton of the first partition
--   tail xs         == the list without its first item; of parts t, all but the one that cuts nothing
--   codes_of p      == an item with the canonical sequences of its trees
--   part_codes s    == the partitions of the tree that a code describes, so written
--
-- Nodes are taken in preorder as they come. Of a canonical tree, which each code describes, that is the preorder of the canonical
-- sequence; the trees of an item are canonical for any tree.
--
-- Source: Chartier, Hairer and Vilmart (2010), partitions and skeletons, in the substitution law; the order of the list is this project's.
-- The code walks one mask over the canonical sequence, in place of this recursion.
use Rattle.std.specs.Prelude.{ℕ, List, [], ◌∷◌, ◌++◌, map}
use Rattle.std.specs.List.{flat_map}
use Rattle.bs_tree.specs.Tree.{Forest, none, grow, Tree, forest}
use Rattle.bs_tree.specs.Canonical.{canonical_of, level_sequence}
use Rattle.bs_tree.specs.Code.{tree_of}

pub record Pieces : Type 0 where
  pub joined : Forest
  pub hung : List Tree
  pub parts : List Tree

abbrev pub node : ℕ → Forest → Tree
node c f = record { colour = c; below = f }

abbrev pub keep_edge : ℕ → Pieces → Pieces → Pieces
keep_edge c kids later = record { joined = grow c kids.joined later.joined; hung = kids.hung ++ later.hung; parts = kids.parts ++ later.parts }

abbrev pub cut_edge : ℕ → Pieces → Pieces → Pieces
cut_edge c kids later =
    record { joined = later.joined; hung = node 0 (forest kids.hung) ∷ later.hung; parts = node c kids.joined ∷ (kids.parts ++ later.parts) }

abbrev pub pieces : Forest → List Pieces
pieces none = record { joined = none; hung = []; parts = [] } ∷ []
pieces (grow c kids rest) =
    flat_map (λ k. map (keep_edge c k) (pieces rest)) (pieces kids) ++ flat_map (λ k. map (cut_edge c k) (pieces rest)) (pieces kids)

pub record Part : Type 0 where
  pub skeleton : Tree
  pub parts : List Tree

-- the part of the root, of colour c, over the others
abbrev pub rooted : ℕ → Pieces → Part
rooted c p = record { skeleton = canonical_of (node 0 (forest p.hung)); parts = map canonical_of (node c p.joined ∷ p.parts) }

abbrev pub parts : Tree → List Part
parts t = map (rooted t.colour) (pieces t.below)

abbrev pub leaf : Tree
leaf = record { colour = 0; below = none }

abbrev pub tail : {X : Type 0} → List X → List X
tail [] = []
tail (x ∷ xs) = xs

-- ---- by codes
pub record PartCodes : Type 0 where
  pub skeleton : List (ℕ × ℕ)
  pub parts : List (List (ℕ × ℕ))

abbrev pub codes_of : Part → PartCodes
codes_of p = record { skeleton = level_sequence p.skeleton; parts = map level_sequence p.parts }

abbrev pub part_codes : List (ℕ × ℕ) → List PartCodes
part_codes code = map codes_of (parts (tree_of code))
