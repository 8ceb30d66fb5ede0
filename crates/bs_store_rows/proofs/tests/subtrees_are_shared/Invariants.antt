use Rattle.bs_store_rows.proofs.tests.subtrees_are_shared.Given as goal

abbrev pub ghosts-shared_subtrees : goal.ghosts-shared_subtrees
ghosts-shared_subtrees g a = record { table = a.parts.table }
