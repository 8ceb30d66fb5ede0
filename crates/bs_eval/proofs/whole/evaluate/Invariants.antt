use Rattle.std.proofs.Common.{◌≡◌}
use Rattle.bs_eval.specs.Machine.{asked, IsSound, IsHeld}
use Rattle.bs_eval.specs.Values.{IsMemory}
use Rattle.bs_eval.specs.Turns.{left}
use Rattle.bs_eval.specs.declared.pair.Pair.{Pair}
use Rattle.bs_eval.proofs.whole.evaluate.Given as goal

abbrev pub invariant-questions : goal.invariant-questions
invariant-questions g l =
    IsSound l.tables l.book l.eval × (asked l.eval ≡ (let p : Pair = record { series = l.fn.series; code = l.fn.code } in p))
    × IsHeld l.book l.memory l.eval × IsMemory l.tables l.book l.memory

abbrev pub decreases-questions : goal.decreases-questions
decreases-questions g l = left l.book l.eval
