use Rattle.std.proofs.Common.{◌≡◌, ◌+◌, ◌≤◌, length, vec_len, take, All}
use Rattle.std.specs.Vec.{vec_capacity}
use Rattle.bs_store.specs.Closing.{numbers_of}
use Rattle.bs_memo.specs.Stripes.{IsEmptyOf}
use Rattle.bs_memo.proofs.memo.Memo.close.Given as goal

abbrev pub invariant-stripes : goal.invariant-stripes
invariant-stripes g l = record {
  yielded : length l.yielded ≡ l.place;
  rest : length l.stripe-iterator.rest.items + l.place ≡ vec_len l.numbers;
  numbers : numbers_of l.home.items ≡ take l.place l.numbers.items;
  empty : All (IsEmptyOf g.N.StoreName.table) l.home.items;
  long : vec_len l.home ≡ l.place;
  room : vec_len l.numbers ≤ vec_capacity l.home;
}
