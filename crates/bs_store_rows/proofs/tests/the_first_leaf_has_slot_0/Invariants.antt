use Rattle.bs_store_rows.proofs.tests.the_first_leaf_has_slot_0.Given as goal

abbrev pub ghosts-first_leaf : goal.ghosts-first_leaf
ghosts-first_leaf g a = record { table = a.parts.table }
