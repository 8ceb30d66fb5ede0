use Rattle.std.proofs.Common.{◌≡◌, ◌++◌, drop}
use Rattle.bs_top.specs.Output.{sessions_text}
use Rattle.bs_top.specs.Run.{joined}
use Rattle.bs_top.proofs.text.write_sessions.Given as goal

abbrev pub invariant-sessions : goal.invariant-sessions
invariant-sessions g l =
    joined l.texts.items ++ sessions_text l.script l.number (drop l.number l.script.sessions) ≡ sessions_text l.script 0 l.script.sessions
