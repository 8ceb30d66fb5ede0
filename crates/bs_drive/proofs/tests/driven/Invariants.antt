use Rattle.bs_drive.proofs.tests.driven.Given as goal

abbrev pub ghosts-replies : goal.ghosts-replies
ghosts-replies a = record { name = a.blank.name; parts = a.blank.parts }

abbrev pub ghosts-worked_out : goal.ghosts-worked_out
ghosts-worked_out a = record { name = a.blank.name; parts = a.blank.parts }
