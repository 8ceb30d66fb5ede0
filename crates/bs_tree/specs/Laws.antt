-- Laws of trees. Each is the contract of a function of the module `laws`.
--
--   CanonicalSequencesDecide     == trees are isomorphic exactly where their canonical sequences are equal
--   IsomorphismIsReflexive, IsomorphismIsSymmetric, IsomorphismIsTransitive   == an equivalence
--   SymmetryTimesDensityDivides  == the factorial of the order is alpha times the symmetry times the density
--   SortingGivesTheGreatest      == the sequence with sorted children is a canonical sequence
--   CanonicalSequenceIsUnique    == each canonical sequence of a tree is that one
--   ReadingGivesTheTree          == a tree's level sequence describes that tree
--   CanonicalSequenceIsFixed     == the tree that a canonical sequence describes has that canonical sequence
--   CanonicalSequenceDescribesTheTree   == and is isomorphic to the tree that the sequence was taken of
--   IsSameForIsomorphicTrees f   == the number f does not change under isomorphism
--
-- Source: Butcher (2021), rooted trees, their symmetry and density; the canonical sequence is this project's.
use Rattle.std.specs.Prelude.{◌≡◌, ℕ, ◌*◌, ◌↔◌, List, IsTrue}
use Rattle.bs_tree.specs.Tree.{Tree, order}
use Rattle.bs_tree.specs.Isomorphic.{isomorphic}
use Rattle.bs_tree.specs.Canonical.{level_sequence, canonical_sequence, IsCanonicalSequence}
use Rattle.bs_tree.specs.Numbers.{symmetry, density, alpha, factorial}
use Rattle.bs_tree.specs.Code.{tree_of}

abbrev pub CanonicalSequencesDecide : Type 0
CanonicalSequencesDecide =
    (t u : Tree) (r s : List (ℕ × ℕ)) → IsCanonicalSequence t r → IsCanonicalSequence u s → (IsTrue (isomorphic t u) ↔ (r ≡ s))

abbrev pub IsomorphismIsReflexive : Type 0
IsomorphismIsReflexive = (t : Tree) → IsTrue (isomorphic t t)

abbrev pub IsomorphismIsSymmetric : Type 0
IsomorphismIsSymmetric = (t u : Tree) → IsTrue (isomorphic t u) → IsTrue (isomorphic u t)

abbrev pub IsomorphismIsTransitive : Type 0
IsomorphismIsTransitive = (t u v : Tree) → IsTrue (isomorphic t u) → IsTrue (isomorphic u v) → IsTrue (isomorphic t v)

abbrev pub SymmetryTimesDensityDivides : Type 0
SymmetryTimesDensityDivides = (t : Tree) → factorial (order t) ≡ alpha t * (symmetry t * density t)

abbrev pub SortingGivesTheGreatest : Type 0
SortingGivesTheGreatest = (t : Tree) → IsCanonicalSequence t (canonical_sequence t)

abbrev pub CanonicalSequenceIsUnique : Type 0
CanonicalSequenceIsUnique = (t : Tree) (s : List (ℕ × ℕ)) → IsCanonicalSequence t s → s ≡ canonical_sequence t

abbrev pub ReadingGivesTheTree : Type 0
ReadingGivesTheTree = (t : Tree) → tree_of (level_sequence t) ≡ t

abbrev pub CanonicalSequenceIsFixed : Type 0
CanonicalSequenceIsFixed = (t : Tree) → canonical_sequence (tree_of (canonical_sequence t)) ≡ canonical_sequence t

abbrev pub CanonicalSequenceDescribesTheTree : Type 0
CanonicalSequenceDescribesTheTree = (t : Tree) → IsTrue (isomorphic t (tree_of (canonical_sequence t)))

abbrev pub IsSameForIsomorphicTrees : (Tree → ℕ) → Type 0
IsSameForIsomorphicTrees number = (t u : Tree) → IsTrue (isomorphic t u) → number t ≡ number u
