use Rattle.std.proofs.Common.{◌≡◌, ◌+◌, ◌++◌, take}
use Rattle.arrayvec.specs.ArrayVec.{array_vec_len}
use Rattle.bs_store.proofs.walk.push_all.Given as goal

abbrev pub invariant-names : goal.invariant-names
invariant-names l = (l.pending.items ≡ l.initial.pending.items ++ take l.name-index l.names) × (array_vec_len l.pending ≡ array_vec_len l.initial.pending + l.name-index)
