use Rattle.std.proofs.Common.{◌≡◌, length}
use Rattle.bs_tableau.specs.Words.{words}
use Rattle.bs_tableau.proofs.words.Words.next.Given as goal

abbrev pub invariant-parts : goal.invariant-parts
invariant-parts l = words l.self-inside.rest.now ≡ l.fn.self

abbrev pub decreases-parts : goal.decreases-parts
decreases-parts l = length l.self-inside.rest.now
