use Rattle.std.proofs.Common.{◌≡◌, ◌++◌, take}
use Rattle.bs_enum.proofs.successor.push_all.Given as goal

abbrev pub invariant-more : goal.invariant-more
invariant-more l = l.pairs ≡ l.initial.pairs ++ take l.pair-index l.more
