use Rattle.std.proofs.Common.{◌≡◌, replicate, []}
use Rattle.bs_core.proofs.machine.no_hands.Given as goal

abbrev pub invariant-hands : goal.invariant-hands
invariant-hands l = l.hands.items ≡ replicate l.counter []
