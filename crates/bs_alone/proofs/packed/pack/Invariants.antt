use Rattle.std.proofs.Common.{◌≡◌, ◌≤◌, length, drop}
use Rattle.bs_alone.specs.Packed.{packed}
use Rattle.bs_alone.proofs.packed.pack.Given as goal

abbrev pub invariant-places : goal.invariant-places
invariant-places l = record {
  within : l.place ≤ length l.pairs;
  is : l.number ≡ packed (drop l.place l.pairs);
}

abbrev pub decreases-places : goal.decreases-places
decreases-places l = l.place
