use Rattle.bs_listing.proofs.tests.partitions.Given as goal

abbrev pub ghosts-counted_partitions : goal.ghosts-counted_partitions
ghosts-counted_partitions a = record { name = a.blank.name; parts = a.blank.parts }
