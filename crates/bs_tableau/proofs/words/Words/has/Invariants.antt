use Rattle.std.proofs.Common.{◌≡◌, ◌+◌, length}
use Rattle.bs_tableau.proofs.words.Words.has.Given as goal

abbrev pub invariant-words : goal.invariant-words
invariant-words l = length l.words + l.counter ≡ length l.self
