use Rattle.bs_listing.proofs.tests.splits.Given as goal

abbrev pub ghosts-counted_splits : goal.ghosts-counted_splits
ghosts-counted_splits a = record { name = a.blank.name; parts = a.blank.parts }
