use Rattle.bs_eval.proofs.tests.value.Given as goal

abbrev pub ghosts-evaluated : goal.ghosts-evaluated
ghosts-evaluated a = record { name = a.blank.name; parts = a.blank.parts }
