use Rattle.std.proofs.Common.{◌≡◌, List, take, map}
use Rattle.bs_catalog.specs.Shelf.{Code, AreRows}
use Rattle.bs_listing.specs.Texts.{HoldsTexts}
use Rattle.bs_listing.proofs.BySide.{behind_text}
use Rattle.bs_listing.proofs.sides.others_of.Given as goal

abbrev pub invariant-rows : goal.invariant-rows
invariant-rows l = record {
  texts : HoldsTexts l.catalog.codes l.texts;
  are : (lists : List (List Code)) → AreRows l.catalog.codes l.rows lists → l.others ≡ map (behind_text l.count l.end) (take l.place lists);
}
