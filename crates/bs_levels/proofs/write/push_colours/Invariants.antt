use Rattle.std.proofs.Common.{◌≡◌, ◌≤◌, ◌+◌, ◌*◌, ◌++◌, take, vec_len, vec_capacity}
use Rattle.bs_levels.specs.TreeText.{colours_text}
use Rattle.bs_levels.proofs.write.push_colours.Given as goal

abbrev pub invariant-pairs : goal.invariant-pairs
invariant-pairs l =
    (l.out.items ≡ l.fn.out.items ++ colours_text (take l.node l.pairs))
    × (vec_len l.out ≤ vec_len l.fn.out + 4 * l.node)
    × (vec_capacity l.fn.out ≤ vec_capacity l.out)
