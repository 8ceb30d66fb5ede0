-- Laws of codes. Each is the contract of a function of the module `code_laws`.
--
--   SameCodeDecides           == same_code is the test of equality
--   LevelSequencesDescribe    == the lists with valid levels are the level sequences of the trees that they describe, and no others
--   CodesAreLevelSequences    == a code is a level sequence, and the code of its pairs is that code
--   TreesHaveCodes            == the canonical sequence of a tree within the bounds is a code
--   ChildrenAreCodes          == the children of a code are codes, each of a smaller order
--   ChildrenDecrease          == they come in decreasing order
--   ChildrenAddUp             == the order is one more than the orders of the children together
--   CodeIsRootOverChildren    == a code is its root's colour over the codes of its children
--   ColourAndChildrenDecide   == so two codes with one colour and the same children are equal
--   RootOverCodesIsACode      == a colour over codes in decreasing order that fit is a code, with that colour and those children
--
-- Source: this project's own.
use Rattle.std.specs.Prelude.{◌≡◌, ℕ, ◌<◌, ◌≤◌, ◌+◌, ◌↔◌, List, IsTrue, IsSorted, All, Some, length, map, sum}
use Rattle.std.specs.Bool.{Decides}
use Rattle.std.specs.Ordering.{flip_args}
use Rattle.bs_tree.specs.Tree.{Tree, order, IsColoured}
use Rattle.bs_tree.specs.Canonical.{level_sequence, canonical_sequence, sequence_cmp}
use Rattle.bs_tree.specs.Code.{has_valid_levels, is_level_sequence, tree_of, IsCode, code_of_pairs, child_codes, root_colour, same_code, joined}
use Rattle.bs_tree.specs.declared.TheConstants.{MAX_NODES, COLOURS}

abbrev pub SameCodeDecides : Type 0
SameCodeDecides = (a b : List (ℕ × ℕ)) → Decides (same_code a b) (a ≡ b)

abbrev pub LevelSequencesDescribe : Type 0
LevelSequencesDescribe = (ps : List (ℕ × ℕ)) → (IsTrue (has_valid_levels ps) ↔ (level_sequence (tree_of ps) ≡ ps))

abbrev pub CodesAreLevelSequences : Type 0
CodesAreLevelSequences = (s : List (ℕ × ℕ)) → IsCode s → IsTrue (is_level_sequence s) × (level_sequence (tree_of s) ≡ s) × (code_of_pairs s ≡ Some s)

abbrev pub TreesHaveCodes : Type 0
TreesHaveCodes = (t : Tree) → order t ≤ MAX_NODES → IsColoured COLOURS t → IsCode (canonical_sequence t)

abbrev pub ChildrenAreCodes : Type 0
ChildrenAreCodes = (s : List (ℕ × ℕ)) → IsCode s → All (λ child. IsCode child × (length child < length s)) (child_codes s)

abbrev pub ChildrenDecrease : Type 0
ChildrenDecrease = (s : List (ℕ × ℕ)) → IsCode s → IsSorted (flip_args sequence_cmp) (child_codes s)

abbrev pub ChildrenAddUp : Type 0
ChildrenAddUp = (s : List (ℕ × ℕ)) → IsCode s → length s ≡ 1 + sum (map length (child_codes s))

abbrev pub CodeIsRootOverChildren : Type 0
CodeIsRootOverChildren = (s : List (ℕ × ℕ)) → IsCode s → s ≡ joined (root_colour s) (child_codes s)

abbrev pub ColourAndChildrenDecide : Type 0
ColourAndChildrenDecide = (r s : List (ℕ × ℕ)) → IsCode r → IsCode s → root_colour r ≡ root_colour s → child_codes r ≡ child_codes s → r ≡ s

abbrev pub RootOverCodesIsACode : Type 0
RootOverCodesIsACode =
    (colour : ℕ) (codes : List (List (ℕ × ℕ))) → colour < COLOURS → All IsCode codes → IsSorted (flip_args sequence_cmp) codes → sum (map length codes) < MAX_NODES
    → IsCode (joined colour codes) × (root_colour (joined colour codes) ≡ colour) × (child_codes (joined colour codes) ≡ codes)
