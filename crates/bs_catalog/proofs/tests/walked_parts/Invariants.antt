use Rattle.bs_catalog.proofs.tests.walked_parts.Given as goal

abbrev pub ghosts-counted_parts : goal.ghosts-counted_parts
ghosts-counted_parts a = record { name = a.blank.name; parts = a.blank.parts }
