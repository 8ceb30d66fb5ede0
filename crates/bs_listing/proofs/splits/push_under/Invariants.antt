use Rattle.std.proofs.Common.{◌≡◌, ◌+◌}
use Rattle.bs_catalog.specs.Shelf.{Grows}
use Rattle.bs_listing.specs.Texts.{IsFront}
use Rattle.bs_listing.proofs.Lines.{UnderSoFar}
use Rattle.bs_listing.proofs.splits.push_under.Given as goal

abbrev pub invariant-rest : goal.invariant-rest
invariant-rest g l = record {
  grows : Grows l.fn.scribe l.scribe;
  written : UnderSoFar l.fn.scribe.codes l.below l.cut l.rest.heads.items l.rest.texts l.place l.fn.out.items l.out.items;
  counted : l.steps ≡ l.fn.steps + l.place;
  front : IsFront l.fn.out.items l.out.items;
}
