use Rattle.std.proofs.Common.{◌≡◌, ℕ, List, ◌++◌, length}
use Rattle.bs_io.specs.Outside.{Adds}
use Rattle.bs_io.proofs.sink.write_all.Given as goal

abbrev pub invariant-loop-rest : goal.invariant-loop-rest
invariant-loop-rest g l = record {
  front : (front : List ℕ) × (l.bytes ≡ front ++ l.rest) × Adds (g.K.Sink.written l.fn.sink) front (g.K.Sink.written l.sink);
  calm : g.K.Sink.faults l.sink ≡ g.K.Sink.faults l.fn.sink;
  flushed : g.K.Sink.flushed l.sink ≡ g.K.Sink.flushed l.fn.sink;
}

abbrev pub decreases-loop-rest : goal.decreases-loop-rest
decreases-loop-rest g l = length l.rest
