use Rattle.std.proofs.Common.{◌≡◌, take}
use Rattle.std.specs.List.{flat_map}
use Rattle.bs_io.specs.Outside.{Adds}
use Rattle.bs_top.proofs.run.write_pieces.Given as goal

abbrev pub invariant-pieces : goal.invariant-pieces
invariant-pieces g l = record {
  written : Adds (g.E.Sink.written l.fn.errs) (flat_map (λ piece. piece.now) (take l.piece-index l.pieces)) (g.E.Sink.written l.errs);
  calm : g.E.Sink.faults l.errs ≡ g.E.Sink.faults l.fn.errs;
  unflushed : g.E.Sink.flushed l.errs ≡ g.E.Sink.flushed l.fn.errs;
}
