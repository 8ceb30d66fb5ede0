use Rattle.bs_memo_rows.proofs.tests.a_table_with_no_room_keeps_nothing.Given as goal

abbrev pub ghosts-kept_and_looked-N-StoreName : goal.ghosts-kept_and_looked-N-StoreName
ghosts-kept_and_looked-N-StoreName g a = record { table = a.parts.table }

abbrev pub ghosts-kept_and_looked-N-MemoName : goal.ghosts-kept_and_looked-N-MemoName
ghosts-kept_and_looked-N-MemoName g a = record { tables = a.tables.now }
