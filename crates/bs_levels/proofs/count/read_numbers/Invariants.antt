use Rattle.bs_levels.proofs.Rest.{IsCounting, IsColumn, size}
use Rattle.bs_levels.proofs.count.read_numbers.Given as goal

abbrev pub invariant-numbers : goal.invariant-numbers
invariant-numbers l = record {
  counting : IsCounting l.limit l.fn.word l.count l.rest;
  column : IsColumn l.limit l.fn.word l.numbers.items l.count l.rest;
}

abbrev pub decreases-numbers : goal.decreases-numbers
decreases-numbers l = size l.rest
