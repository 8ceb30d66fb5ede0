use Rattle.std.proofs.Common.{List, take}
use Rattle.std.specs.List.{AllByRecursion}
use Rattle.bs_catalog.specs.Shelf.{Code, AreNumbers}
use Rattle.bs_catalog.specs.Memo.{Extends}
use Rattle.bs_catalog.specs.Forests.{IsSequence, IsForest}
use Rattle.bs_catalog.proofs.gathering.forest_of.Given as goal

abbrev pub invariant-trees : goal.invariant-trees
invariant-trees l =
    Extends l.initial.arena l.arena × ((codes : List Code) → AreNumbers l.initial.arena (take l.tree-index l.trees) codes → AllByRecursion IsSequence codes → IsForest l.arena l.forest codes)
