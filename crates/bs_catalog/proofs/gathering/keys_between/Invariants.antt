use Rattle.std.proofs.Common.{List, [], ◌∷◌, slice_range}
use Rattle.bs_catalog.specs.Shelf.{Code, Numbers, AreRows}
use Rattle.bs_catalog.specs.Memo.{Extends}
use Rattle.bs_catalog.specs.Forests.{AreSequences, HasKeys}
use Rattle.bs_catalog.proofs.gathering.keys_between.Given as goal

abbrev pub invariant-rows : goal.invariant-rows
invariant-rows l =
    Extends l.fn.arena l.arena × Numbers l.arena l.leaf ((1, 0) ∷ [])
    × ((lists : List (List Code)) → AreRows l.fn.arena l.rows lists → AreSequences lists → HasKeys l.arena l.rows (slice_range l.rows l.start l.place) l.keys.items)
