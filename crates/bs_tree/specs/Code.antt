-- Codes: canonical sequences of at most MAX_NODES pairs (level, colour), and the trees that lists of pairs describe.
--
--   has_valid_levels ps   == the first level is 1 and occurs once; each further level is at most one more than the one before it
--   is_level_sequence ps  == at most MAX_NODES pairs, valid levels, colours below COLOURS
--   tree_of ps            == the tree that a list of pairs describes, each node below the last one of a level less
--   IsCode s              == s is the canonical sequence of the tree that it describes, of at most MAX_NODES nodes with colours below COLOURS
--   code_of_pairs ps      == the canonical sequence of the tree of a level sequence; None for every other list
--   child_codes s         == the codes of the children of the root, in the order of the sequence
--   root_colour s         == the colour of the root
--   same_code a b         == the test of equality
--   joined c codes        == a root of colour c over the trees of these codes
--
-- Source: level sequences after Beyer and Hedetniemi (1980); colours and codes are this project's own.
-- The code finds each subtree as the run of greater levels behind its root, in place of reading pairs one by one.
use Rattle.std.specs.Prelude.{◌≡◌, ℕ, suc, zero, ◌<◌, ◌≤◌, ◌==◌, ◌&&◌, List, [], ◌∷◌, ◌++◌, length, map, Bool, true, false, cond, nat_lt, nat_le, Option, Some, None, refl}
use Rattle.std.specs.List.{AllByRecursion, list_all}
use Rattle.std.specs.Ordering.{is_eq}
use Rattle.bs_tree.specs.Tree.{Forest, none, grow, Tree, trees}
use Rattle.bs_tree.specs.Canonical.{canonical_sequence, sequence_cmp}
use Rattle.bs_tree.specs.declared.TheConstants.{MAX_NODES, COLOURS}

-- ---- level sequences
-- behind a node of level `last`: each level is at least 2 and at most one more than the level before it
abbrev pub follows : ℕ → List (ℕ × ℕ) → Bool
follows last [] = true
follows last (p ∷ ps) = nat_le 2 p.0 && (nat_le p.0 (suc last) && follows p.0 ps)

abbrev pub has_valid_levels : List (ℕ × ℕ) → Bool
has_valid_levels [] = false
has_valid_levels (p ∷ ps) = (p.0 == 1) && follows 1 ps

abbrev pub is_level_sequence : List (ℕ × ℕ) → Bool
is_level_sequence ps = nat_le (length ps) MAX_NODES && (has_valid_levels ps && list_all (λ p. nat_lt p.1 COLOURS) ps)

-- ---- the tree of a list
-- the trees at one level that a list begins with, and the pairs after them
pub record Parsed : Type 0 where
  pub found : Forest
  pub left : List (ℕ × ℕ)

-- a pair below the level ends the list of trees; with at most `fuel` pairs to read
abbrev pub parse : ℕ → ℕ → List (ℕ × ℕ) → Parsed
parse zero level ps = record { found = none; left = ps }
parse (suc fuel) level [] = record { found = none; left = [] }
parse (suc fuel) level (p ∷ ps) =
    cond (nat_lt p.0 level) (record { found = none; left = p ∷ ps })
    (let kids = parse fuel (suc level) ps in
    let rest = parse fuel level kids.left in
    record { found = grow p.1 kids.found rest.found; left = rest.left })

abbrev pub tree_of : List (ℕ × ℕ) → Tree
tree_of [] = record { colour = 0; below = none }
tree_of (p ∷ ps) = let kids = parse (length ps) 2 ps in record { colour = p.1; below = kids.found }

chain : tree_of ((1, 0) ∷ (2, 1) ∷ (3, 0) ∷ (2, 0) ∷ []) ≡ record { colour = 0; below = grow 1 (grow 0 none none) (grow 0 none none) }
chain = refl

-- ---- codes
pub record IsCode (s : List (ℕ × ℕ)) : Type 0 where
  pub canonical : canonical_sequence (tree_of s) ≡ s
  pub some : 0 < length s
  pub small : length s ≤ MAX_NODES
  pub colours : AllByRecursion (λ p. p.1 < COLOURS) s

abbrev pub code_of_pairs : List (ℕ × ℕ) → Option (List (ℕ × ℕ))
code_of_pairs ps = cond (is_level_sequence ps) (Some (canonical_sequence (tree_of ps))) None

abbrev pub child_codes : List (ℕ × ℕ) → List (List (ℕ × ℕ))
child_codes s = map canonical_sequence (trees (tree_of s).below)

abbrev pub root_colour : List (ℕ × ℕ) → ℕ
root_colour s = (tree_of s).colour

abbrev pub same_code : List (ℕ × ℕ) → List (ℕ × ℕ) → Bool
same_code a b = is_eq (sequence_cmp a b)

-- ---- a code from its children's
-- the pairs one level deeper
abbrev pub deeper : List (ℕ × ℕ) → List (ℕ × ℕ)
deeper ps = map (λ p. (suc p.0, p.1)) ps

abbrev pub all_deeper : List (List (ℕ × ℕ)) → List (ℕ × ℕ)
all_deeper [] = []
all_deeper (c ∷ cs) = deeper c ++ all_deeper cs

abbrev pub joined : ℕ → List (List (ℕ × ℕ)) → List (ℕ × ℕ)
joined colour cs = (1, colour) ∷ all_deeper cs

-- ---- examples
two_apart : is_level_sequence ((1, 0) ∷ (3, 0) ∷ []) ≡ false
two_apart = refl

second_root : is_level_sequence ((1, 0) ∷ (2, 0) ∷ (1, 0) ∷ []) ≡ false
second_root = refl

sorted_by_colour : code_of_pairs ((1, 0) ∷ (2, 0) ∷ (2, 1) ∷ []) ≡ Some ((1, 0) ∷ (2, 1) ∷ (2, 0) ∷ [])
sorted_by_colour = refl

children_of_two : child_codes ((1, 0) ∷ (2, 1) ∷ (3, 2) ∷ (2, 0) ∷ []) ≡ ((1, 1) ∷ (2, 2) ∷ []) ∷ ((1, 0) ∷ []) ∷ []
children_of_two = refl
