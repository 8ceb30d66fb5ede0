use Rattle.std.proofs.Common.{◌≡◌, ◌+◌}
use Rattle.bs_catalog.specs.Shelf.{Grows}
use Rattle.bs_listing.specs.Texts.{IsFront}
use Rattle.bs_listing.proofs.Lines.{JoinedSoFar}
use Rattle.bs_listing.proofs.parts.push_joined_under.Given as goal

abbrev pub invariant-rest : goal.invariant-rest
invariant-rest g l = record {
  grows : Grows l.fn.scribe l.scribe;
  written : JoinedSoFar l.fn.scribe.codes l.below l.others l.rest.crowns.items l.rest.texts l.place l.fn.out.items l.out.items;
  counted : l.steps ≡ l.fn.steps + l.place;
  front : IsFront l.fn.out.items l.out.items;
}
