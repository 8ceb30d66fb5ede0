use Rattle.std.proofs.Common.{◌≡◌, ℕ, ◌<◌, get_or}
use Rattle.bs_levels.specs.Words.{comma}
use Rattle.bs_levels.proofs.split.split_first.Given as goal

abbrev pub invariant-loop-at : goal.invariant-loop-at
invariant-loop-at l = (k : ℕ) → k < l.at → get_or l.word k 0 ≡ comma → ⊥
