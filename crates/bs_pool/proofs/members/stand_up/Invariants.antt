use Rattle.std.proofs.Common.{◌≡◌, ◌+◌, ◌++◌, map, reverse, vec_len, vec_capacity}
use Rattle.bs_pool.specs.Seats.{local_of, seat_of}
use Rattle.bs_pool.proofs.members.stand_up.Given as goal

abbrev pub invariant-loop : goal.invariant-loop
invariant-loop g l = record {
  locals : l.locals.items ++ reverse (map local_of l.members.items) ≡ reverse (map local_of l.initial.members.items);
  seats : l.seats.items ++ reverse (map seat_of l.members.items) ≡ reverse (map seat_of l.initial.members.items);
  long : (vec_len l.members + l.counter ≡ vec_len l.initial.members) × (vec_len l.locals ≡ l.counter) × (vec_len l.seats ≡ l.counter);
  room : (vec_capacity l.locals ≡ vec_capacity l.initial.locals) × (vec_capacity l.seats ≡ vec_capacity l.initial.seats);
}
