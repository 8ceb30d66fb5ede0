-- Laws of the lists of all trees. Each is the contract of a function of the module `laws`.
--
--   CanonicalIsDecided    == is_canonical tells the canonical sequences of trees from all other lists
--   EachTreeIsListed      == the list of an order has the canonical sequence of each tree of that order and these colours
--   OnlyTreesAreListed    == each member is the canonical sequence of such a tree
--   ListDecreases         == the list is strictly decreasing, so that each sequence stands there once
--   ListedAreCodes        == the members are codes, where order and colours are within the bounds
--   CountIsOfTheList      == the number of trees to an order is the length of the list of the trees to that order
--
-- Source: this project's own.
use Rattle.std.specs.Prelude.{◌≡◌, ℕ, ◌≤◌, ◌↔◌, List, IsTrue, All, Contains, length}
use Rattle.std.specs.Ordering.{flip_args}
use Rattle.std.specs.List.Sorted.{IsStrictlySortedBy}
use Rattle.bs_tree.specs.Tree.{Tree, order, IsColoured}
use Rattle.bs_tree.specs.Canonical.{canonical_sequence, sequence_cmp}
use Rattle.bs_tree.specs.Code.{IsCode}
use Rattle.bs_tree.specs.declared.TheConstants.{MAX_NODES, COLOURS}
use Rattle.bs_enum.specs.AllTrees.{is_canonical, all_trees, trees_to, trees_up_to}

abbrev pub CanonicalIsDecided : Type 0
CanonicalIsDecided = (s : List (ℕ × ℕ)) → (IsTrue (is_canonical s) ↔ ((t : Tree) × (canonical_sequence t ≡ s)))

abbrev pub EachTreeIsListed : Type 0
EachTreeIsListed = (n k : ℕ) (t : Tree) → order t ≡ n → IsColoured k t → Contains (all_trees n k) (canonical_sequence t)

abbrev pub OnlyTreesAreListed : Type 0
OnlyTreesAreListed = (n k : ℕ) → All (λ s. (t : Tree) × (order t ≡ n) × IsColoured k t × (canonical_sequence t ≡ s)) (all_trees n k)

abbrev pub ListDecreases : Type 0
ListDecreases = (n k : ℕ) → IsStrictlySortedBy (flip_args sequence_cmp) (all_trees n k)

abbrev pub ListedAreCodes : Type 0
ListedAreCodes = (n k : ℕ) → n ≤ MAX_NODES → k ≤ COLOURS → All IsCode (all_trees n k)

abbrev pub CountIsOfTheList : Type 0
CountIsOfTheList = (n k : ℕ) → length (trees_up_to n k) ≡ trees_to n k
