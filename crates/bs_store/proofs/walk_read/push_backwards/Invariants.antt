use Rattle.std.proofs.Common.{◌≡◌, ◌+◌, ◌≤◌, ◌++◌, length, drop}
use Rattle.arrayvec.specs.ArrayVec.{array_vec_len}
use Rattle.bs_store.specs.Reading.{backwards}
use Rattle.bs_store.proofs.walk_read.push_backwards.Given as goal

abbrev pub invariant-names : goal.invariant-names
invariant-names l = record {
  within : l.rest ≤ length l.names;
  items : l.pending.items ≡ l.initial.pending.items ++ backwards l.depth (drop l.rest l.names);
  long : array_vec_len l.pending + l.rest ≡ array_vec_len l.initial.pending + length l.names;
}

abbrev pub decreases-names : goal.decreases-names
decreases-names l = l.rest
