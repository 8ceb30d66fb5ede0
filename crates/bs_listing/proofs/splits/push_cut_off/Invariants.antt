use Rattle.std.proofs.Common.{◌≡◌, ◌+◌}
use Rattle.bs_listing.specs.Texts.{IsFront}
use Rattle.bs_listing.proofs.Lines.{CutOffSoFar}
use Rattle.bs_listing.proofs.splits.push_cut_off.Given as goal

abbrev pub invariant-rest : goal.invariant-rest
invariant-rest g l = record {
  same : l.scribe ≡ l.fn.scribe;
  written : CutOffSoFar l.fn.scribe.codes l.cut l.rest.heads.items l.rest.texts l.place l.fn.out.items l.out.items;
  counted : l.steps ≡ l.fn.steps + l.place;
  front : IsFront l.fn.out.items l.out.items;
}
