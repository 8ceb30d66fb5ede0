-- Laws of splittings. Each is the contract of a function of the module `laws`.
--
--   WordsGiveTheSplittings  == the list by words is the list by recursion
--   AtMostOnePerWord        == a tree of n + 1 nodes has at most 2^n + 1 splittings
--   ItemsBalance            == the orders of an item's trees add up to the tree's order
--   LastKeepsTheTree        == the last item keeps the whole tree, each other one nothing or a smaller tree
--
-- Source: Chartier, Hairer and Vilmart (2010), the composition law; words and order are this project's.
use Rattle.std.specs.Prelude.{◌≡◌, ◌+◌, ◌^◌, ◌≤◌, length}
use Rattle.std.specs.List.{AllByRecursion}
use Rattle.bs_tree.specs.Tree.{Tree, nodes, order}
use Rattle.bs_split.specs.Splitting.{splits}
use Rattle.bs_split.specs.Words.{splits_by_words}
use Rattle.bs_split.specs.SplittingLaws.{SplitShape, order_kept, orders}

abbrev pub WordsGiveTheSplittings : Type 0
WordsGiveTheSplittings = (t : Tree) → splits_by_words t ≡ splits t

abbrev pub AtMostOnePerWord : Type 0
AtMostOnePerWord = (t : Tree) → length (splits t) ≤ 2 ^ nodes t.below + 1

abbrev pub ItemsBalance : Type 0
ItemsBalance = (t : Tree) → AllByRecursion (λ s. order_kept s.kept + orders s.forest ≡ order t) (splits t)

abbrev pub LastKeepsTheTree : Type 0
LastKeepsTheTree = (t : Tree) → SplitShape t
