use Rattle.std.proofs.Common.{◌≡◌, ◌+◌, ◌-◌, ◌≤◌, length}
use Rattle.bs_tree.specs.Subtrees.{repeats_within, repeats}
use Rattle.bs_tree.proofs.build.repeats.Given as goal

abbrev pub invariant-times : goal.invariant-times
invariant-times l = record {
  counted : l.count + repeats_within (length l.fn.pairs - l.count) l.first l.rest ≡ repeats l.first l.fn.pairs;
  left : l.count + length l.rest ≤ length l.fn.pairs;
}

abbrev pub decreases-times : goal.decreases-times
decreases-times l = length l.rest
