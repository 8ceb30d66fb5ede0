use Rattle.std.proofs.Common.{◌≡◌, ◌≤◌, length}
use Rattle.bs_script.specs.Lines.{kept, last}
use Rattle.bs_script.proofs.cursor.Lines.next.Given as goal

abbrev pub invariant-lines : goal.invariant-lines
invariant-lines l = record {
  kept : kept l.self ≡ kept l.fn.self;
  last : last l.self ≡ last l.fn.self;
  less : length l.self.left ≤ length l.fn.self.left;
}

abbrev pub decreases-lines : goal.decreases-lines
decreases-lines l = length l.self.left
