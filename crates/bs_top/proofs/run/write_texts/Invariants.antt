use Rattle.std.proofs.Common.{◌≡◌, take}
use Rattle.std.specs.List.{flat_map}
use Rattle.bs_io.specs.Outside.{Adds}
use Rattle.bs_top.proofs.run.write_texts.Given as goal

abbrev pub invariant-texts : goal.invariant-texts
invariant-texts g l = record {
  written : Adds (g.K.Sink.written l.fn.sink) (flat_map (λ text. text.items) (take l.text-index l.texts)) (g.K.Sink.written l.sink);
  calm : g.K.Sink.faults l.sink ≡ g.K.Sink.faults l.fn.sink;
  unflushed : g.K.Sink.flushed l.sink ≡ g.K.Sink.flushed l.fn.sink;
}
