use Rattle.std.proofs.Common.{◌≡◌, ◌-◌, ◌++◌}
use Rattle.bs_make.specs.Made.{joined, session_lines}
use Rattle.bs_make.proofs.make.write_sessions.Given as goal

abbrev pub invariant-sessions : goal.invariant-sessions
invariant-sessions l = l.out.items ++ joined (session_lines (64 - l.counter) l.generator) ≡ l.fn.out.items ++ joined (session_lines 64 l.fn.generator)
