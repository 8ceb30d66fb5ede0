use Rattle.bs_store_rows.proofs.tests.two_threads_leave_nothing.Given as goal

abbrev pub ghosts-two_at_work : goal.ghosts-two_at_work
ghosts-two_at_work g a = record { table = a.parts.table }
