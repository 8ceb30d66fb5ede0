use Rattle.std.proofs.Common.{◌≡◌, ◌+◌, ◌-◌, ◌≤◌, vec_len, length}
use Rattle.bs_io.specs.Outside.{Leaves}
use Rattle.bs_io.proofs.source.read_all.Given as goal

abbrev pub invariant-reads : goal.invariant-reads
invariant-reads g l = record {
  within : vec_len l.out ≤ l.limit;
  size : length l.chunk ≡ 4096;
  taken : Leaves (g.S.Source.left l.fn.source) l.out.items (g.S.Source.left l.source);
  calm : g.S.Source.faults l.source ≡ g.S.Source.faults l.fn.source;
}

abbrev pub decreases-reads : goal.decreases-reads
decreases-reads g l = l.limit + 1 - vec_len l.out
