use Rattle.std.proofs.Common.{◌≡◌, ◌+◌, ◌≤◌, length, vec_len, All}
use Rattle.std.specs.Vec.{vec_capacity}
use Rattle.bs_store.specs.Closing.{numbers_of}
use Rattle.bs_memo.specs.Stripes.{AreRooms, IsEmptyOf}
use Rattle.bs_memo.proofs.memo.fill.Given as goal

abbrev pub invariant-passes : goal.invariant-passes
invariant-passes g l = record {
  yielded : length l.yielded ≡ l.place;
  left : length l.caches.items + l.place ≡ l.count;
  rest : length l.pass-iterator.rest.items + l.place ≡ l.count;
  rooms : AreRooms l.capacity l.place l.count l.caches.items;
  empty : All (IsEmptyOf g.N.StoreName.table) l.pass-iterator.rest.items;
  numbers : l.numbers.items ≡ numbers_of l.yielded;
  counted : vec_len l.numbers ≡ l.place;
  room : l.count ≤ vec_capacity l.numbers;
  stripes : vec_len l.stripes ≡ l.place;
  locks : l.count ≤ vec_capacity l.stripes;
}
