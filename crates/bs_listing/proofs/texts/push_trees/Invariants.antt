use Rattle.std.proofs.Common.{◌≡◌, ◌++◌, List, take}
use Rattle.bs_reply.specs.Lines.{trees_text}
use Rattle.bs_catalog.specs.Shelf.{Code, AreNumbers}
use Rattle.bs_listing.specs.Texts.{HoldsTexts}
use Rattle.bs_listing.proofs.texts.push_trees.Given as goal

abbrev pub invariant-trees : goal.invariant-trees
invariant-trees l = record {
  texts : HoldsTexts l.catalog.codes l.texts;
  written : (trees : List Code) → AreNumbers l.catalog.codes l.row trees → l.out.items ≡ l.fn.out.items ++ trees_text (take l.number-index trees);
}
