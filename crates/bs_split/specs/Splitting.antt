-- Splittings of a tree: a part that holds the root, or nothing, is kept; the trees of the rest are cut off.
--
--   Cuts           == what is kept of a list of trees, and the trees that are cut off
--   cut_off t s    == a first tree t is cut off whole, and s comes of the later trees
--   keep c k s     == a first tree's root of colour c is kept, k comes of its children, s of the later trees
--   cuts f         == all ways to cut a list of trees, the first tree's choice varying slowest, a cut before a keep
--   Split          == what is kept of a tree, or nothing, and the forest that is cut off
--   splits t       == the splittings of t: nothing kept, then those that keep the root; each tree of an item is canonical
--   init xs        == the list without its last item; of splits t, all but the one that keeps t whole
--   codes_of s     == an item with the canonical sequences of its trees
--   split_codes s  == the splittings of the tree that a code describes, so written
--
-- Children are taken as they come. Of a canonical tree, which each code describes, that is in canonical order; the trees of an
-- item are canonical for any tree.
--
-- Source: Chartier, Hairer and Vilmart (2010), the subtrees that hold the root, in the composition law; the order of the list is this project's.
-- The code walks one mask over the canonical sequence, in place of this recursion.
use Rattle.std.specs.Prelude.{ℕ, List, [], ◌∷◌, ◌++◌, map, Option, Some, None, option_map}
use Rattle.std.specs.List.{flat_map}
use Rattle.bs_tree.specs.Tree.{Forest, none, grow, Tree}
use Rattle.bs_tree.specs.Canonical.{canonical_of, level_sequence}
use Rattle.bs_tree.specs.Code.{tree_of}

pub record Cuts : Type 0 where
  pub kept : Forest
  pub cut : List Tree

abbrev pub cut_off : Tree → Cuts → Cuts
cut_off t later = record { kept = later.kept; cut = t ∷ later.cut }

abbrev pub keep : ℕ → Cuts → Cuts → Cuts
keep c kids later = record { kept = grow c kids.kept later.kept; cut = kids.cut ++ later.cut }

abbrev pub cuts : Forest → List Cuts
cuts none = record { kept = none; cut = [] } ∷ []
cuts (grow c kids rest) =
    map (cut_off (record { colour = c; below = kids })) (cuts rest) ++ flat_map (λ k. map (keep c k) (cuts rest)) (cuts kids)

pub record Split : Type 0 where
  pub kept : Option Tree
  pub forest : List Tree

-- a root of colour c over what is kept below it
abbrev pub rooted : ℕ → Cuts → Split
rooted c k = record { kept = Some (canonical_of (record { colour = c; below = k.kept })); forest = map canonical_of k.cut }

abbrev pub splits : Tree → List Split
splits t = record { kept = None; forest = canonical_of t ∷ [] } ∷ map (rooted t.colour) (cuts t.below)

abbrev pub init : {X : Type 0} → List X → List X
init [] = []
init (x ∷ []) = []
init (x ∷ (y ∷ ys)) = x ∷ init (y ∷ ys)

-- ---- by codes
pub record SplitCodes : Type 0 where
  pub kept : Option (List (ℕ × ℕ))
  pub forest : List (List (ℕ × ℕ))

abbrev pub codes_of : Split → SplitCodes
codes_of s = record { kept = option_map level_sequence s.kept; forest = map level_sequence s.forest }

abbrev pub split_codes : List (ℕ × ℕ) → List SplitCodes
split_codes code = map codes_of (splits (tree_of code))
