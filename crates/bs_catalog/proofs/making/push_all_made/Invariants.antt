use Rattle.std.proofs.Common.{take}
use Rattle.bs_catalog.specs.Memo.{Extends}
use Rattle.bs_catalog.specs.Puts.{PutsAll}
use Rattle.bs_catalog.proofs.making.push_all_made.Given as goal

abbrev pub invariant-kids : goal.invariant-kids
invariant-kids l = Extends l.initial.arena l.arena × PutsAll l.way l.initial.arena l.arena (take l.place l.kids) l.rest l.initial.out l.out
