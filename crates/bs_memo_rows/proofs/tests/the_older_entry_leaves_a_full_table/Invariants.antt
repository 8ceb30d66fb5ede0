use Rattle.bs_memo_rows.proofs.tests.the_older_entry_leaves_a_full_table.Given as goal

abbrev pub ghosts-kept_and_looked-N-StoreName : goal.ghosts-kept_and_looked-N-StoreName
ghosts-kept_and_looked-N-StoreName g a = record { table = a.parts.table }

abbrev pub ghosts-kept_and_looked-N-MemoName : goal.ghosts-kept_and_looked-N-MemoName
ghosts-kept_and_looked-N-MemoName g a = record { tables = a.tables.now }
