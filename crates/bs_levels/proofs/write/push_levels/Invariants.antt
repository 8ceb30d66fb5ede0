use Rattle.std.proofs.Common.{◌≡◌, ◌≤◌, ◌+◌, ◌*◌, ◌++◌, take, vec_len, vec_capacity}
use Rattle.bs_levels.specs.TreeText.{levels_text}
use Rattle.bs_levels.proofs.write.push_levels.Given as goal

abbrev pub invariant-pairs : goal.invariant-pairs
invariant-pairs l =
    (l.out.items ≡ l.fn.out.items ++ levels_text (take l.node l.pairs))
    × (vec_len l.out ≤ vec_len l.fn.out + 4 * l.node)
    × (vec_capacity l.fn.out ≤ vec_capacity l.out)
