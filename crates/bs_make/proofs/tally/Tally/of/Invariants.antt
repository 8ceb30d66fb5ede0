use Rattle.std.proofs.Common.{◌≡◌, ◌≤◌, ◌*◌, ◌^◌, take, flat_map}
use Rattle.bs_make.specs.Tally.{nothing_read, read_all}
use Rattle.bs_make.proofs.tally.Tally.of.Given as goal

abbrev pub invariant-pieces : goal.invariant-pieces
invariant-pieces l = record {
  told : l.tally ≡ read_all nothing_read (flat_map (λ piece. piece.items) (take l.piece-index l.pieces));
  bytes : l.tally.bytes ≤ l.piece-index * 2 ^ 64;
}
