use Rattle.std.proofs.Common.{[]}
use Rattle.bs_memo.proofs.tests.the_first_stripes_have_one_more.Given as goal

abbrev pub ghosts-three_stripes-N-StoreName : goal.ghosts-three_stripes-N-StoreName
ghosts-three_stripes-N-StoreName g a = record { table = a.parts.now.table }

abbrev pub ghosts-three_stripes-N-MemoName : goal.ghosts-three_stripes-N-MemoName
ghosts-three_stripes-N-MemoName g a = record { tables = [] }
