-- Laws of partitions. Each is the contract of a function of the module `laws`.
--
--   WordsGiveThePartitions  == the list by words is the list by recursion
--   OnePerWord              == a tree of n + 1 nodes has 2^n partitions
--   ItemsBalance            == the orders of an item's parts add up to the tree's order
--   OneNodePerPart          == a skeleton has one node for each part
--   FirstCutsNothing        == the first item has the leaf as skeleton and the whole tree as its part, each part of another one is smaller
--   ItemsAreCanonical       == each tree of an item is canonical
--   ColoursStay             == an item's parts have the colours of the tree, and its skeleton has colour 0 alone
--   LastCutsAll             == the last item has the tree's shape in colour 0 as skeleton, and the single nodes as parts
--
-- Source: Chartier, Hairer and Vilmart (2010), the substitution law; words and order are this project's.
use Rattle.std.specs.Prelude.{◌≡◌, ℕ, ◌^◌, length}
use Rattle.std.specs.List.{AllByRecursion}
use Rattle.bs_tree.specs.Tree.{Tree, nodes, order, IsColoured}
use Rattle.bs_tree.specs.SortingLaws.{IsCanonical}
use Rattle.bs_part.specs.Partition.{parts}
use Rattle.bs_part.specs.Words.{parts_by_words}
use Rattle.bs_part.specs.PartitionLaws.{PartShape, LastPart, orders}

abbrev pub WordsGiveThePartitions : Type 0
WordsGiveThePartitions = (t : Tree) → parts_by_words t ≡ parts t

abbrev pub OnePerWord : Type 0
OnePerWord = (t : Tree) → length (parts t) ≡ 2 ^ nodes t.below

abbrev pub ItemsBalance : Type 0
ItemsBalance = (t : Tree) → AllByRecursion (λ p. orders p.parts ≡ order t) (parts t)

abbrev pub OneNodePerPart : Type 0
OneNodePerPart = (t : Tree) → AllByRecursion (λ p. order p.skeleton ≡ length p.parts) (parts t)

abbrev pub ItemsAreCanonical : Type 0
ItemsAreCanonical = (t : Tree) → AllByRecursion (λ p. IsCanonical p.skeleton × AllByRecursion IsCanonical p.parts) (parts t)

abbrev pub ColoursStay : Type 0
ColoursStay = (k : ℕ) (t : Tree) → IsColoured k t → AllByRecursion (λ p. IsColoured 1 p.skeleton × AllByRecursion (IsColoured k) p.parts) (parts t)

abbrev pub FirstCutsNothing : Type 0
FirstCutsNothing = (t : Tree) → PartShape t

abbrev pub LastCutsAll : Type 0
LastCutsAll = (t : Tree) → LastPart t
