use Rattle.std.proofs.Common.{◌≡◌, drop}
use Rattle.bs_memo.specs.Keys.{digest_from}
use Rattle.bs_memo.proofs.key.digest_of.Given as goal

abbrev pub invariant-bytes : goal.invariant-bytes
invariant-bytes l = digest_from l.digest (drop l.byte-index l.bytes) ≡ digest_from 0 l.bytes
