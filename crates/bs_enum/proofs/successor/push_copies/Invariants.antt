use Rattle.std.proofs.Common.{◌≡◌, ◌+◌, ◌-◌, ◌++◌, length, drop}
use Rattle.bs_enum.specs.Successor.{turned}
use Rattle.bs_enum.proofs.successor.push_copies.Given as goal

abbrev pub invariant-copies : goal.invariant-copies
invariant-copies l = record {
  same : l.pairs ++ turned (l.count - l.counter) (drop (length l.pairs - l.period) l.pairs)
      ≡ l.initial.pairs ++ turned l.count (drop (length l.initial.pairs - l.period) l.initial.pairs);
  size : length l.pairs ≡ length l.initial.pairs + l.counter;
}
