use Rattle.std.proofs.Common.{◌≡◌, ◌+◌, ◌*◌, length}
use Rattle.bs_catalog.specs.Shelf.{Grows}
use Rattle.bs_listing.specs.Texts.{IsFront}
use Rattle.bs_listing.proofs.Lines.{AllSeveredSoFar}
use Rattle.bs_listing.proofs.parts.push_severed.Given as goal

abbrev pub invariant-kids : goal.invariant-kids
invariant-kids g l = record {
  grows : Grows l.fn.scribe l.scribe;
  written : AllSeveredSoFar l.fn.scribe.codes l.kids.crowns.items l.kids.texts l.rest.crowns.items l.rest.texts l.place l.fn.out.items l.out.items;
  counted : l.steps ≡ l.fn.steps + l.place * length l.rest.crowns.items;
  front : IsFront l.fn.out.items l.out.items;
}
