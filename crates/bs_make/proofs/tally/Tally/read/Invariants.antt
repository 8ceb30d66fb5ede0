use Rattle.std.proofs.Common.{◌≡◌, ◌+◌, take}
use Rattle.bs_make.specs.Tally.{read_all}
use Rattle.bs_make.proofs.tally.Tally.read.Given as goal

abbrev pub invariant-bytes : goal.invariant-bytes
invariant-bytes l = record {
  told : l.self ≡ read_all l.initial.self (take l.byte-index l.piece);
  bytes : l.self.bytes ≡ l.initial.self.bytes + l.byte-index;
}
