use Rattle.bs_top.proofs.text.answer_alone.Given as goal

abbrev pub ghosts-write_sessions : goal.ghosts-write_sessions
ghosts-write_sessions a = record { name = a.blank.name; parts = a.blank.parts }
