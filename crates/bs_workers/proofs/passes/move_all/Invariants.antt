use Rattle.std.proofs.Common.{◌≡◌, ◌+◌, ◌≤◌, ◌++◌, length, vec_len}
use Rattle.std.specs.Vec.{vec_capacity}
use Rattle.bs_workers.proofs.passes.move_all.Given as goal

abbrev pub invariant-passes : goal.invariant-passes
invariant-passes l = record {
  items : l.home.items ≡ l.initial.home.items ++ l.yielded;
  room : vec_len l.home + length l.pass-iterator.rest.items ≤ vec_capacity l.home;
  capacity : vec_capacity l.home ≡ vec_capacity l.initial.home;
}
