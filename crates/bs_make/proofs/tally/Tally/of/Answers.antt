use Rattle.std.proofs.Common.{◌≡◌, ◌+◌, ◌∙◌, length, get_or, sym, ap, arith}
use Rattle.bs_make.specs.Tally.{read_all}
use Rattle.bs_make.proofs.Told.{read_more, bytes_more}
use Rattle.bs_make.proofs.tally.Tally.of.Goals as goal

pub pieces-preserved : goal.pieces-preserved
pieces-preserved c =
    let k = c.pieces.piece-index in
    let piece = c.piece-item.result in
    let all = c.args.pieces.now in
    let h : c.read.new.self.bytes ≡ c.pieces.tally.bytes + length c.deref.result.now = ap (λ t. t.bytes) c.read.ensures ∙ bytes_more c.pieces.tally c.deref.result.now in
    record {
      told = c.read.ensures ∙ ap (read_all c.pieces.tally) (c.deref.ensures.value ∙ ap (λ p. p.items) c.piece-item.is)
          ∙ ap (λ t. read_all t (get_or all k piece).items) c.pieces.invariant.told ∙ sym (read_more (λ p. p.items) all k piece c.pieces-test.true);
      bytes = omega (arith, h, c.deref.ensures.len, c.pieces.invariant.bytes, piece.small);
    }
