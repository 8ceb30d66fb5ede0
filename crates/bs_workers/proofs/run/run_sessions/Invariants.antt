use Rattle.bs_workers.proofs.run.run_sessions.Given as goal

abbrev pub ghosts-run_shared-N-MemoName : goal.ghosts-run_shared-N-MemoName
ghosts-run_shared-N-MemoName g a = record { tables = a.script.now.tables }

abbrev pub ghosts-run_shared-N-StoreName : goal.ghosts-run_shared-N-StoreName
ghosts-run_shared-N-StoreName g a = record { table = a.parts.table }
