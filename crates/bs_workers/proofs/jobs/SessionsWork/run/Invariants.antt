use Rattle.bs_workers.proofs.jobs.SessionsWork.run.Given as goal

abbrev pub ghosts-write_session : goal.ghosts-write_session
ghosts-write_session g a = record { name = a.blank.name; parts = a.blank.parts }
