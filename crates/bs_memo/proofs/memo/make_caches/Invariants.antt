use Rattle.std.proofs.Common.{◌≡◌, length}
use Rattle.bs_memo.specs.Stripes.{AreRooms}
use Rattle.bs_memo.proofs.memo.make_caches.Given as goal

abbrev pub invariant-stripes : goal.invariant-stripes
invariant-stripes l = record { long : length l.caches.items ≡ l.place; rooms : AreRooms l.capacity 0 l.stripes l.caches.items }
