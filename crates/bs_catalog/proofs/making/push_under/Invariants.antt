use Rattle.std.proofs.Common.{take}
use Rattle.bs_catalog.specs.Memo.{Extends}
use Rattle.bs_catalog.specs.Puts.{PutsUnder}
use Rattle.bs_catalog.proofs.making.push_under.Given as goal

abbrev pub invariant-rest : goal.invariant-rest
invariant-rest l = Extends l.initial.arena l.arena × PutsUnder l.way l.initial.arena l.arena l.kept (take l.place l.rest) l.initial.out l.out
