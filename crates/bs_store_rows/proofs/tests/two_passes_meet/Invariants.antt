use Rattle.bs_store_rows.proofs.tests.two_passes_meet.Given as goal

abbrev pub ghosts-meet_read_give : goal.ghosts-meet_read_give
ghosts-meet_read_give g a = record { table = a.parts.table }
